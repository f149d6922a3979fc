-- A field of k bytes, and what is then asked of it, are two readers in turn. Assumes nothing.
use mathlib.Core.Path.{◌≡◌, refl}
use mathlib.Core.Bool.{Bool, true, false, cond}
use mathlib.Core.List.{List}
use Prim.Native.Nat.{ℕ, zero, suc, ◌+◌, ◌-◌, ◌≤◌}
use Rattle.std.proofs.Common.{sub-one}
use borrow.Author.Tests.{leb-true}
use lib.Dec.{leb, eqb}
use lib.ListN.{length}
use Rattle.lua51_value.specs.Bytes.{byte_at, int_at}
use Rattle.lua51_deserializer.specs.Chunk.{Read, here, refused, ◌then◌, whole, field, limited, body, string, present, byte_to, constant_of, constant, exactly}

module _ (s : List ℕ) where
  whole_in_turn : (k i : ℕ) (f : ℕ → Read) → whole s k i (f (i + k)) ≡ (field s k i then f)
  unfolding field
  whole_in_turn k i f = by_test (leb (i + k) (length s))
    where
      by_test : (b : Bool) → cond b (f (i + k)) (refused 3 i) ≡ (cond b (here (i + k)) (refused 3 i) then f)
      by_test true = refl
      by_test false = refl

  pub limited_in_turn : (k limit v i : ℕ) → limited s k limit v i ≡ (field s k i then (λ j. cond (leb v limit) (here j) (refused 4 i)))
  unfolding limited
  limited_in_turn k limit v i = whole_in_turn k i (λ j. cond (leb v limit) (here j) (refused 4 i))

  pub present_in_turn : (i : ℕ) → present s i ≡ (field s 4 i then (λ _. cond (eqb (int_at s i) 0) (refused 4 i) (string s i)))
  unfolding present
  present_in_turn i = whole_in_turn 4 i (λ _. cond (eqb (int_at s i) 0) (refused 4 i) (string s i))

  pub exactly_in_turn : (b i : ℕ) → exactly s b i ≡ (field s 1 i then (λ j. cond (eqb (byte_at s i) b) (here j) (refused 2 i)))
  unfolding exactly
  exactly_in_turn b i = whole_in_turn 1 i (λ j. cond (eqb (byte_at s i) b) (here j) (refused 2 i))

  pub body_in_turn : (k i : ℕ) → (k ≡ 0 → ⊥) → body s k i ≡ (field s k i then (λ j. cond (eqb (byte_at s (i + (k - 1))) 0) (here j) (refused 4 i)))
  unfolding body
  body_in_turn zero i some = absurd (some refl)
  body_in_turn (suc k) i some = rw sub-one (whole_in_turn (suc k) i (λ j. cond (eqb (byte_at s (i + k)) 0) (here j) (refused 4 i)))

  -- what is read behind a constant's kind
  pub constant_in_turn : (i : ℕ) → constant s i ≡ (field s 1 i then (λ j.
      cond (eqb (byte_at s i) 0) (here j)
      (cond (eqb (byte_at s i) 1) (byte_to s 1 j)
      (cond (eqb (byte_at s i) 3) (field s 8 j)
      (cond (eqb (byte_at s i) 4) (present s j)
      (refused 4 i))))))
  unfolding constant constant_of
  constant_in_turn i = whole_in_turn 1 i _

  -- a field that was read is whole
  pub field_fits : (k i j : ℕ) → here j ≡ field s k i → i + k ≤ length s
  unfolding field
  field_fits k i j e = by_test (leb (i + k) (length s)) refl e
    where
      by_test : (b : Bool) → leb (i + k) (length s) ≡ b → here j ≡ cond b (here (i + k)) (refused 3 i) → i + k ≤ length s
      by_test true h g = leb-true (i + k) (length s) h
      by_test false h g = cc
