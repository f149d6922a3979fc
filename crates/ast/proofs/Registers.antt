-- Laws of runs of registers as expressions: their numbers, their count, one turn of a loop over them. Assumes nothing.
use Prim.Native.Nat.{ℕ, zero, suc, ◌+◌}
use mathlib.Core.Path.{◌≡◌, refl, ap, ◌∙◌}
use mathlib.Core.List.{[], ◌∷◌, ◌++◌}
use native.Mathlib.Omega.{arith}
use Rattle.ast.specs.Statement.{Exprs, []ᵉ, registers, count, exprs, expr}

-- the numbers of registers and of what stands behind them
pub exprs_registers : (r n : ℕ) (xs : Exprs) → exprs (registers r n xs) ≡ exprs (registers r n []ᵉ) ++ exprs xs
unfolding registers exprs expr
exprs_registers r zero xs = refl
exprs_registers r (suc n) xs = rw (exprs_registers (r + 1) n xs)

-- how many expressions they are
pub count_registers : (r n : ℕ) (xs : Exprs) → count (registers r n xs) ≡ n + count xs
unfolding registers count
count_registers r zero xs = omega arith
count_registers r (suc n) xs = ap suc (count_registers (r + 1) n xs) ∙ omega arith

pub count_registers_alone : (r n : ℕ) → count (registers r n []ᵉ) ≡ n
unfolding count
count_registers_alone r n = count_registers r n []ᵉ ∙ omega arith

-- the first of n registers from r on, and the m behind it; and none
pub registers_turn : (r n m : ℕ) → n ≡ m + 1 → exprs (registers r n []ᵉ) ≡ 1 ∷ r ∷ exprs (registers (r + 1) m []ᵉ)
unfolding registers exprs expr
registers_turn r n m e =
    let more : n ≡ suc m = omega arith in
    rw more

pub registers_done : (r n : ℕ) → n ≡ 0 → exprs (registers r n []ᵉ) ≡ []
unfolding registers exprs
registers_done r n e = rw e
