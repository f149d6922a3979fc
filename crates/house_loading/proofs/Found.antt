-- A load is refused by 34 or a later number. Assumes nothing.
use Prim.Native.Nat.{ℕ}
use native.Mathlib.Omega.{arith}
use mathlib.Core.Bool.{not, ◌||◌}
use mathlib.Core.List.{List}
use lib.Dec.{ltb, eqb}
use lib.ListN.{length, get_or}
use Rattle.house_table.specs.House.{opcode_count, highest_opcode}
use Rattle.lua51_lifter.proofs.Verdicts.{From, else_from, refuse_from, first_from}
use Rattle.house_loading.specs.Loading.{table_length, table_line, says_none, table_of, repeated, form_verdict, number_verdict}
use Rattle.house_loading.specs.Loading.{load_verdict}

form_from : (s : List ℕ) (i : ℕ) → From 34 (form_verdict s i)
unfolding form_verdict
form_from s i = refuse_from (says_none (table_line s i)) 34 i (omega arith)

number_from : (xs : List ℕ) (i : ℕ) → From 34 (number_verdict xs i)
unfolding number_verdict
number_from xs i = refuse_from (ltb highest_opcode (get_or xs i 0) || repeated xs i) 35 i (omega arith)

pub load_from : (s : List ℕ) → From 34 (load_verdict s)
unfolding load_verdict
load_from s =
    else_from (refuse_from (not (eqb (length s) table_length)) 34 0 (omega arith))
    (else_from (first_from (form_verdict s) (form_from s) 0 opcode_count) (first_from (number_verdict (table_of s)) (number_from (table_of s)) 0 opcode_count))
