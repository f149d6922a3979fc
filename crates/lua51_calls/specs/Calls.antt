-- The values that a word takes, as parts of runs, and the statements of CALL and TFORLOOP.
use Rattle.std.specs.Prelude.{ℕ, ◌+◌, ◌-◌, cond, List, [], ◌∷◌, ◌++◌, eqb}
use Rattle.lua51_instruction.specs.Word.{VARARG, number_of, field_opcode, field_a, field_b}
use Rattle.lua51_instruction.specs.Proto.{Proto, arg_a, arg_c}
use Rattle.ast.specs.Statement.{Expr, Exprs, register, nil, binary, op_unequal, call, vararg, select, []ᵉ, one, registers, count, exprs}
use Rattle.ast.specs.Statement.{Stmt, assign, call_statement, if_statement}
use Rattle.lua51_lifter.specs.Lift.{call_with, tail_for}

-- how many expressions a list has, and their numbers
abbrev pub counted : Exprs → List ℕ
counted xs = count xs ∷ exprs xs

-- the same of the registers from a slot to below an opener's A and the open tail behind them, up to that tail
abbrev pub below : ℕ → ℕ → List ℕ
below slot opener = (opener - slot + 1) ∷ exprs (registers slot (opener - slot) []ᵉ)

-- the numbers of a call of R(a), up to the values that it takes
abbrev pub callee : ℕ → List ℕ
callee a = 10 ∷ 1 ∷ a ∷ []

-- the numbers of a call of R(a) with an open tail, up to that tail
abbrev pub open_call_numbers : ℕ → ℕ → List ℕ
open_call_numbers a opener = callee a ++ below (a + 1) opener

-- the open results of a word that takes none itself
unfoldable pub results_alone : ℕ → Expr
results_alone w = cond (eqb (field_opcode w) (number_of VARARG)) vararg (call (register (field_a w)) (registers (field_a w + 1) (field_b w - 1) []ᵉ))

-- the statement of a CALL whose results are not open: with C 1 it has none
abbrev pub statement_of_call : Proto → ℕ → Stmt
statement_of_call p i =
    cond (eqb (arg_c p i) 1) (call_statement (call_with p i (tail_for p i)))
    (assign (registers (arg_a p i) (arg_c p i - 1) []ᵉ) (one (select (call_with p i (tail_for p i)))))

-- the statements of TFORLOOP, where a and c are the word's A and C: first its call, then its test
abbrev pub statement_of_loop : ℕ → ℕ → ℕ → Stmt
statement_of_loop a c k =
    cond (eqb k 0) (assign (registers (a + 3) c []ᵉ) (one (call (register a) (registers (a + 1) 2 []ᵉ))))
    (if_statement (binary op_unequal (register (a + 3)) nil))
