-- Laws of the tests by which the code judges an operand. Assumes nothing.
use Prim.Native.Nat.{ℕ, ◌+◌, ◌-◌, ◌<◌, ◌≤◌}
use mathlib.Core.Bool.{Bool, true, false, cond, ◌||◌}
use mathlib.Core.Path.{◌≡◌, refl, sym, ◌∙◌}
use native.Mathlib.Omega.{arith}
use lib.Dec.{leb, ltb}
use borrow.Author.Tests.{ltb-true, ltb-false, lt-ltb, le-ltb, leb-false}
use Rattle.basics.proofs.Tests.{either_way}
use Rattle.lua51_instruction.specs.Argument.{register_or_constant}
use Rattle.lua51_instruction.specs.declared.argument.RegisterOrConstant.TheVariants.{Register, Constant}

-- ------------------------------------------------------------ numbers

-- numbers that are both k larger compare alike
pub shifted : (k x y z w : ℕ) → x + k ≡ z → y + k ≡ w → ltb x y ≡ ltb z w
shifted k x y z w e f =
    either_way (ltb x y)
    (λ t. t ∙ sym (lt-ltb z w (omega (arith, ltb-true x y t))))
    (λ t. t ∙ sym (le-ltb z w (omega (arith, ltb-false x y t))))

-- a run of n − 1 registers, whose last is R(a + n − k), is empty or ends below s
pub run_fits : (k a n s : ℕ) → k ≤ 2 → leb n 1 || ltb (a + n) (s + k) ≡ leb n 1 || ltb (a + n - k) s
run_fits k a n s h =
    either_way (leb n 1)
    (λ t. rw t)
    (λ t. let l : 1 < n = leb-false n 1 t in
    let d : a + n - k + k ≡ a + n = omega arith in
    rw (t, shifted k (a + n - k) s (a + n) (s + k) d refl))

-- ------------------------------------------------------------ operands that are either

module _ (x k : ℕ) where
  pub register_fits : (s n : ℕ) → Register k ≡ register_or_constant x → ltb k s ≡ cond (ltb 255 x) (ltb (x - 256) n) (ltb x s)
  register_fits s n = by (ltb 255 x)
    where
      by : (b : Bool) → Register k ≡ cond b (Constant (x - 256)) (Register x) → ltb k s ≡ cond b (ltb (x - 256) n) (ltb x s)
      by true h = cc
      by false h = cc

  pub constant_fits : (s n : ℕ) → Constant k ≡ register_or_constant x → ltb k n ≡ cond (ltb 255 x) (ltb (x - 256) n) (ltb x s)
  constant_fits s n = by (ltb 255 x)
    where
      by : (b : Bool) → Constant k ≡ cond b (Constant (x - 256)) (Register x) → ltb k n ≡ cond b (ltb (x - 256) n) (ltb x s)
      by true h = cc
      by false h = cc
