-- Laws of operands as expressions of two numbers. Assumes nothing.
use Prim.Native.Nat.{ℕ, ◌-◌}
use mathlib.Core.Bool.{Bool, true, false, cond}
use mathlib.Core.Path.{◌≡◌, refl, ap, ◌∙◌, sym}
use mathlib.Core.List.{List, [], ◌∷◌}
use lib.Dec.{ltb}
use Rattle.lua51_instruction.specs.Argument.{register_or_constant}
use Rattle.lua51_instruction.specs.declared.argument.RegisterOrConstant.{RegisterOrConstant}
use Rattle.lua51_instruction.specs.declared.argument.RegisterOrConstant.TheVariants.{Register, Constant}
use Rattle.ast.specs.Statement.{expr, register, constant}
use Rattle.lua51_lifter.specs.Lift.{rk}

-- the numbers of a register or a constant
abbrev pub leaf_of : RegisterOrConstant → List ℕ
leaf_of (Register r) = 1 ∷ r ∷ []
leaf_of (Constant k) = 2 ∷ k ∷ []

pub leaf_of_lem : (x : ℕ) (v : RegisterOrConstant) → v ≡ register_or_constant x → expr (rk x) ≡ leaf_of v
unfolding rk expr
leaf_of_lem x v e = go (ltb 255 x) ∙ sym (ap leaf_of e)
  where
    go : (b : Bool) → expr (cond b (constant (x - 256)) (register x)) ≡ leaf_of (cond b (Constant (x - 256)) (Register x))
    go true = refl
    go false = refl
