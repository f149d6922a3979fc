-- A constant by its kind: what is read, and the value that it stands for. Assumes nothing.
use Prim.Native.Nat.{ℕ, ◌+◌, ◌-◌, ◌*◌, ◌<◌, ◌≤◌, ◌^◌}
use native.Mathlib.Decide.{ℕ_discrete}
use native.Mathlib.Omega.{arith}
use mathlib.Core.Bool.{Bool, true, false, not, cond}
use mathlib.Core.List.{List}
use mathlib.Core.Path.{◌≡◌, refl, ◌∙◌, sym, ap}
use lib.Dec.{eqb}
use lib.ListN.{take}
use lib.Ieee.{binary64, nan_bits, of_bits}
use lib.Ieee.Bits.{nan_bits_is, to_bits-of_bits}
use borrow.Author.Tests.{eq-eqb, ne_eqb}
use Rattle.lua51_value.specs.Bytes.{byte_at, int_at}
use Rattle.lua51_value.specs.Value.{kind_nil, kind_boolean, kind_number, value_at}
use Rattle.lua51_value.specs.Value as value
use Rattle.lua51_value.specs.Constant.{pattern_at, number_of, pattern_of, value_of, within, constant_at, Reads}
use Rattle.lua51_value.specs.declared.value.Constant.TheVariants.{Nil, Boolean, Number, NotANumber, String}
use Rattle.lua51_value.proofs.Ends.{drop_within}

-- ------------------------------------------------------------ numbers

-- every 64-bit pattern comes back from the number that it stands for, a NaN's too
pub pattern_kept : (n : ℕ) → n < 2 ^ 64 → pattern_of (number_of n) ≡ n
unfolding pattern_of number_of
pattern_kept n h = go (nan_bits binary64 n) refl
  where
    go : (b : Bool) → nan_bits binary64 n ≡ b → pattern_of (cond b (NotANumber n) (Number (of_bits binary64 n))) ≡ n
    go true e = refl
    go false e = to_bits-of_bits binary64 n h (rw (sym (nan_bits_is binary64 n) ∙ e) tt)

-- a number stands for its pattern
number_value : (s : List ℕ) (n : ℕ) → value_of s (number_of n) ≡ value.number (pattern_of (number_of n))
unfolding number_of value_of pattern_of
number_value s n = go (nan_bits binary64 n)
  where
    go : (b : Bool)
        → value_of s (cond b (NotANumber n) (Number (of_bits binary64 n))) ≡ value.number (pattern_of (cond b (NotANumber n) (Number (of_bits binary64 n))))
    go true = refl
    go false = refl

-- ------------------------------------------------------------ booleans

-- a bool keeps a boolean that is 0 or 1
boolean_kept : (x : ℕ) → x ≤ 1 → cond (not (eqb x 0)) 1 0 ≡ x
boolean_kept x h = go (ℕ_discrete x 0)
  where
    go : Dec (x ≡ 0) → cond (not (eqb x 0)) 1 0 ≡ x
    go (yes e) = rw (eq-eqb x 0 e) (sym e)
    go (no n) = rw (ne_eqb x 0 n) (omega arith)

-- ------------------------------------------------------------ what is read, by the kind

module _ (s : List ℕ) (i : ℕ) where
  pub reads_nil : byte_at s i ≡ kind_nil → Reads s i Nil
  unfolding constant_at value_at value_of
  reads_nil k = record { answer = rw k; meaning = λ small. rw k }

  pub reads_boolean : byte_at s i ≡ kind_boolean → Reads s i (Boolean (not (eqb (byte_at s (i + 1)) 0)))
  unfolding constant_at value_at value_of
  reads_boolean k = record {
    answer = rw k;
    meaning = λ small. rw k (ap value.boolean (boolean_kept (byte_at s (i + 1)) (small k)));
  }

  pub reads_number : byte_at s i ≡ kind_number → pattern_at s (i + 1) < 2 ^ 64
      → Reads s i (number_of (pattern_at s (i + 1)))
  unfolding constant_at value_at pattern_at
  reads_number k h =
      let e : i + 1 + 4 ≡ i + 5 = omega arith in
      record {
        answer = rw k;
        meaning = λ small. rw k
            (number_value s (pattern_at s (i + 1))
            ∙ ap value.number (pattern_kept (pattern_at s (i + 1)) h ∙ ap (λ (n : ℕ). int_at s (i + 1) + 2 ^ 32 * int_at s n) e));
      }

  pub reads_string : (byte_at s i ≡ kind_nil → ⊥) → (byte_at s i ≡ kind_boolean → ⊥) → (byte_at s i ≡ kind_number → ⊥)
      → Reads s i (String (within s (i + 5)) (int_at s (i + 1) - 1))
  unfolding constant_at value_at value_of
  reads_string a b d = record {
    answer = rw (ne_eqb (byte_at s i) kind_nil a, ne_eqb (byte_at s i) kind_boolean b, ne_eqb (byte_at s i) kind_number d);
    meaning = λ small.
        rw (ne_eqb (byte_at s i) kind_nil a, ne_eqb (byte_at s i) kind_boolean b, ne_eqb (byte_at s i) kind_number d)
        (ap (λ (t : List ℕ). value.text (take (int_at s (i + 1) - 1) t)) (drop_within s (i + 5)));
  }
