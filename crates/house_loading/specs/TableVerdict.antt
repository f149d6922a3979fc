-- The numbers and places of document 02, 3 for what the code finds in the bytes of a table, and the numbers as it holds them.
use Rattle.std.specs.Prelude.{ℕ, min, List, Result, Ok, Err}
use Rattle.basics.specs.Range.{table as filled}
use Rattle.house_table.specs.House.{opcode_count}
use Rattle.lua51_lifter.specs.Check.{Verdict, fine, wrong}
use Rattle.house_loading.specs.Loading.{table_line, number_said}
use Rattle.house_loading.specs.declared.TableFault.{TableFault}
use Rattle.house_loading.specs.declared.TableFault.TheVariants.{Form, Number}

-- the number of each fault of a table
abbrev pub table_fault_number : TableFault → ℕ
table_fault_number (Form i) = 34
table_fault_number (Number i) = 35

-- its place
abbrev pub table_fault_place : TableFault → ℕ
table_fault_place (Form i) = i
table_fault_place (Number i) = i

abbrev pub table_verdict_of : {A : Type 0} → Result A TableFault → Verdict
table_verdict_of (Ok a) = fine
table_verdict_of (Err f) = wrong (table_fault_number f) (table_fault_place f)

-- a number in a byte: one above 37, which is refused, as 38
abbrev pub in_byte : ℕ → ℕ
in_byte x = min x opcode_count

-- the numbers of all lines in bytes; of a table that is not refused they are its numbers (`numbers_loaded` in proofs/Loading.antt)
abbrev pub table_bytes : List ℕ → List ℕ
table_bytes s = filled (λ i. in_byte (number_said (table_line s i))) opcode_count
