-- `table_numbers` meets its contract. The loop's invariant: the lines before line i are read. Assumes nothing.
use Prim.Native.Nat.{ℕ, ◌<◌}
use mathlib.Core.Path.{◌≡◌}
use lib.ListN.{length, get_or}
use Rattle.house_table.specs.House.{opcode_count}
use Rattle.house_loading.specs.Loading.{table_line, number_said}
use Rattle.house_loading.specs.TableVerdict.{in_byte}
use Rattle.house_loading.proofs.table_numbers.Given as goal

abbrev pub invariant-loop-i : goal.invariant-loop-i
invariant-loop-i l =
    (length l.number-items ≡ opcode_count)
    × ((k : ℕ) → k < l.i → get_or l.number-items k 0 ≡ in_byte (number_said (table_line l.s k)))
