-- `inverse_of`. The loop's invariant: the inverse is that of the lines from the last one that is left on. Assumes nothing.
use mathlib.Core.Path.{◌≡◌}
use lib.ListN.{length, take}
use Rattle.basics.specs.Range.{table as filled}
use Rattle.house_table.specs.House.{number_count}
use Rattle.house_table.proofs.Inverse.{found_from}
use Rattle.house_table.proofs.inverse_of.Given as goal

abbrev pub invariant-loop-i : goal.invariant-loop-i
invariant-loop-i l =
    let left = l.i-iterator.iter.iter.rest.now in
    (l.i-iterator.iter.count ≡ 0)
    × (left ≡ take (length left) l.fn.table)
    × (l.inverse ≡ filled (found_from l.fn.table (length left)) number_count)
