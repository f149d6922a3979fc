-- Jump targets: the sum that is one fits an i32, its tests against 0 and n, and where it lands. Assumes nothing.
use Prim.Native.Nat.{ℕ, suc, ◌+◌, ◌-◌, ◌<◌, ◌≤◌, ◌^◌, min}
use native.Mathlib.Decide.{dec_lt}
use native.Mathlib.Omega.{arith}
use mathlib.Core.Bool.{true, false}
use mathlib.Core.Path.{◌≡◌, refl}
use lib.Dec.{T, leb, ltb}
use lib.IntN.{ℤ, pos, negsuc, sub_ℕ, ◌+ℤ◌, nat_abs, pos-ne-negsuc}
use lib.Signed.{mag, lt_z, le_z, non_neg}
use borrow.Author.Tests.{lt-ltb, le-ltb, le-leb, lt-leb, ltb-true, leb-true, leb-false}
use mir.Syntax.{w64}
use mir.Val.{Fits}
use Rattle.std.specs.Prelude.{Option, Some, None}
use Rattle.lua51_instruction.specs.Word.{field_bx, bias}
use Rattle.lua51_instruction.specs.Jump.{s_bx, among_words, largest_i32, last_jump, target_of, is_word, word_or}
use Rattle.lua51_instruction.proofs.Signed.{sub_ge, sub_lt, plus, mag_sub}
use Rattle.basics.proofs.Tests.{clash, either_way}

-- ------------------------------------------------------------ sBx and the sum

pub s_bx_small : (w : ℕ) → mag (s_bx w) < 2 ^ 31
s_bx_small w = mag_sub (field_bx w) bias (2 ^ 31) (omega arith) (omega arith)

module _ (i w : ℕ) where
  -- word + 1 + sBx
  abbrev pub sum : ℤ
  sum = pos (i + 1) +ℤ s_bx w

  -- it is below the largest i32
  pub sum_small : i ≤ last_jump → mag sum < largest_i32
  sum_small h = rw (plus (i + 1) (field_bx w) bias) (mag_sub (i + 1 + field_bx w) bias largest_i32 (omega arith) (omega arith))

-- ------------------------------------------------------------ its tests

module _ (n : ℕ) where
  pub below_0 : (z : ℤ) → lt_z z (pos 0) ≡ true → None ≡ among_words n z
  below_0 (pos t) h = absurd (omega (arith, ltb-true t 0 h))
  below_0 (negsuc t) h = refl

  pub from_n : (z : ℤ) → mag z < largest_i32 → le_z (pos (min n largest_i32)) z ≡ true → None ≡ among_words n z
  from_n (pos t) small h = rw (le-ltb t n (omega (arith, leb-true (min n largest_i32) t h)))
  from_n (negsuc t) small h = refl

  pub inside : (z : ℤ) → lt_z z (pos 0) ≡ false → le_z (pos (min n largest_i32)) z ≡ false → Some (nat_abs z) ≡ among_words n z
  inside (pos t) g h = rw (lt-ltb t n (omega (arith, leb-false (min n largest_i32) t h)))
  inside (negsuc t) g h = clash refl g

-- what is not below 0 can be cast
pub castable : (z : ℤ) → lt_z z (pos 0) ≡ false → mag z < largest_i32 → T (non_neg z) × Fits w64 (nat_abs z)
castable (pos t) g small = (tt, record { fits = omega arith })
castable (negsuc t) g small = clash refl g

pub by_sum : (i n w : ℕ) {t : Option ℕ} → i ≤ last_jump → t ≡ among_words n (sum i w) → t ≡ target_of i n w
unfolding target_of
by_sum i n w h e = rw (le-leb i last_jump h) e

pub too_far : (i n w : ℕ) → last_jump < i → None ≡ target_of i n w
unfolding target_of
too_far i n w h = rw (lt-leb i last_jump h)

-- ------------------------------------------------------------ where it lands

sum_back : (i w t : ℕ) → pos t ≡ sum i w → t + bias ≡ i + 1 + field_bx w
sum_back i w t e = go (dec_lt (i + 1 + field_bx w) bias) (rw (plus (i + 1) (field_bx w) bias) at e)
  where
    go : Dec (i + 1 + field_bx w < bias) → pos t ≡ sub_ℕ (i + 1 + field_bx w) bias → t + bias ≡ i + 1 + field_bx w
    go (yes l) d = absurd (pos-ne-negsuc t (bias - suc (i + 1 + field_bx w)) (rw (sub_lt (i + 1 + field_bx w) bias l) at d))
    go (no l) d =
        let g : pos t ≡ pos (i + 1 + field_bx w - bias) = rw (sub_ge (i + 1 + field_bx w) bias (omega arith)) at d in
        let h : t ≡ i + 1 + field_bx w - bias = cc in
        omega arith

module _ (n : ℕ) where
  word_below : (z : ℤ) → is_word (among_words n z) ≡ true → word_or n (among_words n z) < n
  word_below (pos t) h = either_way (ltb t n) (λ b. rw b (ltb-true t n b)) (λ b. clash h (rw b))
  word_below (negsuc t) h = clash h refl

  word_is : (z : ℤ) → is_word (among_words n z) ≡ true → pos (word_or n (among_words n z)) ≡ z
  word_is (pos t) h = either_way (ltb t n) (λ b. rw b) (λ b. clash h (rw b))
  word_is (negsuc t) h = clash h refl

  word_most : (z : ℤ) → word_or n (among_words n z) ≤ n
  word_most (pos t) = either_way (ltb t n) (λ b. rw b (omega (arith, ltb-true t n b))) (λ b. rw b (omega arith))
  word_most (negsuc t) = omega arith

module _ (i n w : ℕ) where
  -- a target is at most n
  pub target_most : word_or n (target_of i n w) ≤ n
  unfolding target_of
  target_most = either_way (leb i last_jump) (λ b. rw b (word_most n (sum i w))) (λ b. rw b (omega arith))

  -- one that is a word is below n, and word + 1 + sBx
  pub target_below : is_word (target_of i n w) ≡ true → word_or n (target_of i n w) < n
  unfolding target_of
  target_below h = either_way (leb i last_jump) (λ b. rw b (word_below n (sum i w) (rw b at h))) (λ b. clash h (rw b))

  pub target_sum : is_word (target_of i n w) ≡ true → word_or n (target_of i n w) + bias ≡ i + 1 + field_bx w
  unfolding target_of
  target_sum h = either_way (leb i last_jump)
      (λ b. rw b (sum_back i w (word_or n (among_words n (sum i w))) (word_is n (sum i w) (rw b at h))))
      (λ b. clash h (rw b))
