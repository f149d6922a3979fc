-- `put_bytes` meets its contract. The loop's invariant: the bytes before the one that is next are printed. Assumes nothing.
use lib.ListN.{take}
use Rattle.lines.specs.Out.{Puts}
use Rattle.lines.proofs.Output.put_bytes.Given as goal

abbrev pub invariant-loop-b : goal.invariant-loop-b
invariant-loop-b l = Puts l.initial.self l.self (take l.b-index l.bytes)
