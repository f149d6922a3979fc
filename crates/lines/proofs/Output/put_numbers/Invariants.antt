-- `put_numbers` meets its contract. The loop's invariant: the numbers before the one that is next are printed. Assumes nothing.
use mathlib.Core.List.{flat_map}
use lib.ListN.{take}
use Rattle.lines.specs.Line.{column}
use Rattle.lines.specs.Out.{Puts}
use Rattle.lines.proofs.Output.put_numbers.Given as goal

abbrev pub invariant-loop-n : goal.invariant-loop-n
invariant-loop-n g l = Puts l.initial.out l.out (flat_map (λ n. column (g.T.Columned.value n)) (take l.n-index l.numbers))
