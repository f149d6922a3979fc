-- The numbers of document 01 for each refusal, and the line that prints them.
use Rattle.std.specs.Prelude.{ℕ, List, [], ◌∷◌}
use Rattle.lines.specs.Line.{line, letter_x}
use Rattle.lua51_deserializer.specs.Cursor.{chunk_fault_number, chunk_fault_place}
use Rattle.lua51_lifter.specs.Verdict.{function_fault_number, function_fault_place}
use Rattle.house_loading.specs.TableVerdict.{table_fault_number, table_fault_place}
use Rattle.judging.specs.Judge.{Answer, refusal}
use Rattle.judging.specs.declared.refusal.Refusal.{Refusal}
use Rattle.judging.specs.declared.refusal.Refusal.TheVariants.{Chunk, Function, NotOpened, NoFunction, OutputShort, Table}
use Rattle.judging.specs.declared.refusal.Numbers.{Numbers}

-- 'Each gives number, function, place.' 'For 1 to 6 the function is 0.' From the state, 'Function is the next one, place 0'; of 34 and 35
-- 'function 0, place the first offending line's position'
abbrev pub refusal_of : Refusal → Answer
refusal_of (Chunk fault) = refusal (chunk_fault_number fault) 0 (chunk_fault_place fault)
refusal_of (Function f fault) = refusal (function_fault_number fault) f (function_fault_place fault)
refusal_of (NotOpened f) = refusal 31 f 0
refusal_of (NoFunction f) = refusal 32 f 0
refusal_of (OutputShort f) = refusal 33 f 0
refusal_of (Table fault) = refusal (table_fault_number fault) 0 (table_fault_place fault)

-- the refusal with these numbers
abbrev pub refusal_by : Numbers → Answer
refusal_by r = refusal r.number r.function r.place

-- 'one line X: number, function, place'
abbrev pub refusal_line : ℕ → ℕ → ℕ → List ℕ
refusal_line n f p = line letter_x (n ∷ f ∷ p ∷ [])
