-- What the arms of a match on opcodes know. Assumes nothing.
use Prim.Native.Nat.{ℕ, zero, suc, ◌+◌, ◌≤◌, ◌<◌}
use mathlib.Core.Path.{◌≡◌}
use native.Mathlib.Omega.{arith}

-- o is none of the n numbers from `from` on, as the last arm of a match has it
abbrev pub Missed : ℕ → ℕ → ℕ → Type 0
Missed o from zero = Unit {0}
Missed o from (suc n) = Missed o from n × (o ≡ from + n → ⊥)

pub missed : (o from n : ℕ) → from ≤ o → Missed o from n → from + n ≤ o
missed o from zero le h = omega arith
missed o from (suc n) le h = beyond (missed o from n le h.0) h.1
  where
    beyond : from + n ≤ o → (o ≡ from + n → ⊥) → from + suc n ≤ o
    beyond le ne = omega arith

-- the one element of a list of one
pub sole : {k n : ℕ} → k < n → n ≡ 1 → k ≡ 0
sole {k} {n} h e =
    let below : k < 1 = rw e at h in
    omega arith
