-- The numbers of a condition: 'if', Not where its flag is 0, and what it tests. Assumes nothing.
use Prim.Native.Nat.{ℕ}
use mathlib.Core.Bool.{Bool, true, false, cond}
use mathlib.Core.List.{[], ◌∷◌, ◌++◌}
use mathlib.Core.Path.{◌≡◌, refl}
use lib.Dec.{eqb}
use Rattle.ast.specs.Statement.{Expr, if_statement, unary, op_not, run, expr}
use Rattle.lua51_lifter.specs.Lift.{condition}

pub condition_numbers : (flag : ℕ) (x : Expr)
    → run (if_statement (condition flag x)) ≡ cond (eqb flag 0) (3 ∷ 8 ∷ 1 ∷ []) (3 ∷ []) ++ expr x
unfolding condition run expr
condition_numbers flag x = go (eqb flag 0)
  where
    go : (b : Bool) → 3 ∷ expr (cond b (unary op_not x) x) ≡ cond b (3 ∷ 8 ∷ 1 ∷ []) (3 ∷ []) ++ expr x
    go true = refl
    go false = refl
