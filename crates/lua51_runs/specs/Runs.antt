-- The parts of runs that the code writes one after the other, and the run of one of a word's statements.
use Rattle.std.specs.Prelude.{ℕ, ◌+◌, ◌-◌, ◌*◌, List, [], ◌∷◌, get_or}
use Rattle.ast.specs.Statement.{Stmt, []ᵉ, registers, close, exprs, run}

-- the numbers of 'R(r) gets an expression', whose numbers are xs
abbrev pub assigned : ℕ → List ℕ → List ℕ
assigned r xs = 1 ∷ 1 ∷ 1 ∷ 1 ∷ r ∷ xs

-- the numbers of an assignment of one value to the n registers from r on, up to the value
abbrev pub lefts : ℕ → ℕ → List ℕ
lefts r n = 1 ∷ n ∷ 1 ∷ exprs (registers r n []ᵉ)

-- the numbers of a set list of n registers, up to its tail, where a and c are the word's A and C
abbrev pub listed : ℕ → ℕ → ℕ → List ℕ
listed a c n = 7 ∷ a ∷ ((c - 1) * 50 + 1) ∷ n ∷ exprs (registers (a + 1) n []ᵉ)

-- the numbers of statement k of a list that has it
abbrev pub run_at : List Stmt → ℕ → List ℕ
run_at ss k = run (get_or ss k (close []))
