-- Behind the last byte every byte reads 0; so a place that is cut off at the end of the bytes reads as it did. Assumes
-- nothing.
use Prim.Native.Nat.{ℕ, ◌≤◌, ◌+◌}
use native.Mathlib.Omega.{arith}
use mathlib.Core.List.{List, []}
use mathlib.Core.Path.{◌≡◌, sym, ◌∙◌}
use lib.Dec.{ltb}
use lib.ListN.{length, drop, drop_of_length-le, get_or-eq_default}
use borrow.Author.Tests.{ltb-false}
use Rattle.lua51_value.specs.Bytes.{byte_at, int_at}
use Rattle.lua51_value.specs.Constant.{within, pattern_at}
use Rattle.basics.proofs.Tests.{either_way}

pub byte_past : (s : List ℕ) (i : ℕ) → length s ≤ i → byte_at s i ≡ 0
byte_past s i h = get_or-eq_default s 0 h

pub int_past : (s : List ℕ) (i : ℕ) → length s ≤ i → int_at s i ≡ 0
unfolding int_at
int_past s i h =
    omega (arith, byte_past s i h, byte_past s (i + 1) (omega arith), byte_past s (i + 2) (omega arith), byte_past s (i + 3) (omega arith))

pub pattern_past : (s : List ℕ) (i : ℕ) → length s ≤ i → pattern_at s i ≡ 0
unfolding pattern_at
pattern_past s i h = omega (arith, int_past s i h, int_past s (i + 4) (omega arith))

module _ (s : List ℕ) (i : ℕ) where
  -- what is the same at every place behind the last byte is the same at a place and at the place cut off
  pub cut_off : {A : Type 0} (f : ℕ → A) (z : A) → ((j : ℕ) → length s ≤ j → f j ≡ z) → f (within s i) ≡ f i
  cut_off f z past = either_way (ltb i (length s))
      (λ t. rw t)
      (λ t. rw t (past (length s) (omega arith) ∙ sym (past i (ltb-false i (length s) t))))

  pub byte_within : byte_at s (within s i) ≡ byte_at s i
  byte_within = cut_off (byte_at s) 0 (byte_past s)

  pub int_within : int_at s (within s i) ≡ int_at s i
  int_within = cut_off (int_at s) 0 (int_past s)

  pub pattern_within : pattern_at s (within s i) ≡ pattern_at s i
  pattern_within = cut_off (pattern_at s) 0 (pattern_past s)

  pub drop_within : drop (within s i) s ≡ drop i s
  drop_within = cut_off {A = List ℕ} (λ (j : ℕ). drop j s) [] (λ j h. drop_of_length-le s h)
