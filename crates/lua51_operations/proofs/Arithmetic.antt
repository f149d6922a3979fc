-- The operators of arithmetic stand in the order of its opcodes. Assumes nothing.
use Prim.Native.Nat.{ℕ, zero, suc, ◌+◌, ◌-◌, ◌≤◌}
use mathlib.Core.Path.{◌≡◌, refl}
use native.Mathlib.Omega.{arith}
use Rattle.lua51_instruction.specs.Word.{op_of}
use Rattle.lua51_instruction.specs.Proto.{Proto}
use Rattle.lua51_lifter.specs.Lift.{operation, statements_by}

-- ADD to POW are numbered as their operators are
module _ (p : Proto) (i : ℕ) where
  numbered : (m : ℕ) → m ≤ 5 → statements_by p i (op_of (12 + m)) ≡ operation p i (m + 1)
  unfolding op_of statements_by
  numbered zero h = refl
  numbered (suc zero) h = refl
  numbered (suc (suc zero)) h = refl
  numbered (suc (suc (suc zero))) h = refl
  numbered (suc (suc (suc (suc zero)))) h = refl
  numbered (suc (suc (suc (suc (suc zero))))) h = refl
  numbered (suc (suc (suc (suc (suc (suc m)))))) h = absurd (omega arith)

  pub arithmetic_is : (o : ℕ) → 12 ≤ o → o ≤ 17 → statements_by p i (op_of o) ≡ operation p i (o - 12 + 1)
  arithmetic_is o lo hi =
      let e : 12 + (o - 12) ≡ o = omega arith in
      rw e at (numbered (o - 12) (omega arith))
