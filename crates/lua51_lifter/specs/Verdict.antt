-- The numbers and places of the documents for what a check finds (document 01, 'Refusals from the input', 7 to 14; document
-- 02, 15).
use Prim.{Unit}
use Rattle.std.specs.Prelude.{ℕ, ◌-◌, ◌≤◌, Result, Ok, Err}
use Rattle.lua51_lifter.specs.Check as check
use Rattle.lua51_lifter.specs.Check.{fine, wrong}
use Rattle.lua51_lifter.specs.declared.verdict.FunctionFault.{FunctionFault}
use Rattle.lua51_lifter.specs.declared.verdict.FunctionFault.TheVariants.{Head, Last, Operand, Target}
use Rattle.lua51_lifter.specs.declared.verdict.FunctionFault.TheVariants.{Jump, Results, Captures, Shared, Line}

-- the number of each fault of a function
abbrev pub function_fault_number : FunctionFault → ℕ
function_fault_number Head = 7
function_fault_number (Last i) = 8
function_fault_number (Operand i) = 9
function_fault_number (Target i) = 10
function_fault_number (Jump i) = 11
function_fault_number (Results i) = 12
function_fault_number (Captures i) = 13
function_fault_number (Shared i) = 14
function_fault_number (Line i) = 15

-- its place; 7 has 'Place 0'
abbrev pub function_fault_place : FunctionFault → ℕ
function_fault_place Head = 0
function_fault_place (Last i) = i
function_fault_place (Operand i) = i
function_fault_place (Target i) = i
function_fault_place (Jump i) = i
function_fault_place (Results i) = i
function_fault_place (Captures i) = i
function_fault_place (Shared i) = i
function_fault_place (Line i) = i

abbrev pub verdict_of : Result (Unit {0}) FunctionFault → check.Verdict
verdict_of (Ok t) = fine
verdict_of (Err f) = wrong (function_fault_number f) (function_fault_place f)

-- what is found in n words: nothing, or a refusal from `least` to `most` whose place is one of them, or 0
abbrev pub Found : ℕ → ℕ → ℕ → check.Verdict → Type 0
Found least most n fine = Unit {0}
Found least most n (wrong k i) = (least ≤ k) × (k ≤ most) × (i ≤ n - 1)
