-- Which of the code's answers are refusals, and that they give nothing; and that the line of a refusal is short. Assumes nothing.
use mathlib.Core.List.{flat_map}
use mathlib.Core.Path.{◌≡◌, refl}
use native.Mathlib.Omega.{arith}
use Prim.Native.Nat.{ℕ, ◌≤◌}
use lib.ListN.{length, length-append}
use Rattle.lines.specs.Line.{line}
use Rattle.lines.proofs.Lengths.{column_length}
use Rattle.judging.specs.Judge as judge
use Rattle.judging.specs.Judge.{refusal}
use Rattle.judging.specs.Refusal.{refusal_of, refusal_line}
use Rattle.judging.specs.declared.refusal.Refusal.{Refusal}
use Rattle.judging.specs.declared.refusal.Refusal.TheVariants.{Chunk, Function, NotOpened, NoFunction, OutputShort, Table}
use Rattle.lua51_deserializer.specs.Cursor.{chunk_fault_number, chunk_fault_place}
use Rattle.lua51_lifter.specs.Verdict.{function_fault_number, function_fault_place}
use Rattle.house_loading.specs.TableVerdict.{table_fault_number, table_fault_place}

-- an answer is a refusal
pub record Refused (a : judge.Answer) : Type 0 where
  pub number : ℕ
  pub function : ℕ
  pub place : ℕ
  pub is : a ≡ refusal number function place

a_refusal : (n f p : ℕ) → Refused (refusal n f p)
a_refusal n f p = record { number = n; function = f; place = p; is = refl }

pub refused : (r : Refusal) → Refused (refusal_of r)
refused (Chunk fault) = a_refusal (chunk_fault_number fault) 0 (chunk_fault_place fault)
refused (Function f fault) = a_refusal (function_fault_number fault) f (function_fault_place fault)
refused (NotOpened f) = a_refusal 31 f 0
refused (NoFunction f) = a_refusal 32 f 0
refused (OutputShort f) = a_refusal 33 f 0
refused (Table fault) = a_refusal (table_fault_number fault) 0 (table_fault_place fault)

-- a letter, three columns, a line feed
pub line_length : (n f p : ℕ) → length (refusal_line n f p) ≤ 62
unfolding line flat_map
line_length n f p = simp length-append (omega (arith, column_length n, column_length f, column_length p))
