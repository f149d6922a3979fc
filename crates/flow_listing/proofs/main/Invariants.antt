-- `main`. The loop's invariant: the pieces before the next are printed, and the buffers are as long as they were made. Assumes nothing.
use mathlib.Core.Path.{◌≡◌}
use lib.ListN.{length}
use Rattle.block_lines.specs.Lines.{run_numbers}
use Rattle.reading.specs.Program.{buffer}
use Rattle.flow_listing.specs.Run.{Reached}
use Rattle.flow_listing.proofs.main.Given as goal

abbrev pub invariant-loop-k : goal.invariant-loop-k
invariant-loop-k l = Reached l.chunk.bytes.now l.judged l.chunk.functions.now l.k-iterator.start × (buffer ≡ length l.out) × (run_numbers ≡ length l.run)
