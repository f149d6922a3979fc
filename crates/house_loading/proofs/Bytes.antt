-- Numbers in bytes are refused where the numbers are; and the verdict on one line. Assumes nothing.
use Prim.Native.Nat.{ℕ, zero, suc, ◌+◌, ◌<◌, ◌≤◌}
use native.Mathlib.Omega.{arith}
use native.Mathlib.Decide.{dec_lt, ℕ_discrete}
use mathlib.Core.Bool.{Bool, true, false, not, cond}
use mathlib.Core.Path.{◌≡◌, refl, sym, ap, subst, ◌∙◌}
use mathlib.Core.List.{List, [], ◌∷◌}
use Rattle.std.specs.Prelude.{Option, Some, None, is_some}
use Rattle.std.specs.List.{list_any}
use lib.Dec.{eqb, ltb}
use lib.ListN.{length, get_or, take}
use borrow.Author.Tests.{lt-ltb, le-ltb, eq-eqb, ne_eqb}
use Rattle.lines.specs.Numeral.{Numeral, numeral_of}
use Rattle.basics.specs.Range.{only, over, times, table as filled}
use Rattle.basics.proofs.Tables.{table_at as filled_at}
use Rattle.house_table.specs.House.{opcode_count, highest_opcode}
use Rattle.lua51_lifter.specs.Check.{Verdict, fine, wrong, first_refusal}
use Rattle.house_loading.specs.Loading.{table_line, number_said, says_none, table_of, repeated, form_verdict, number_verdict, load_verdict, table_length}
use Rattle.house_loading.specs.TableVerdict.{in_byte, table_bytes}

-- ------------------------------------------------------------ numbers in bytes

byte_small : (x : ℕ) → x < opcode_count → in_byte x ≡ x
byte_small x h = omega arith

eqb_byte : (x y : ℕ) → x < opcode_count → eqb x (in_byte y) ≡ eqb x y
eqb_byte x y h = go (dec_lt y opcode_count)
  where
    go : Dec (y < opcode_count) → eqb x (in_byte y) ≡ eqb x y
    go (yes l) = rw (byte_small y l)
    go (no m) = ne_eqb x (in_byte y) (λ e. omega arith) ∙ sym (ne_eqb x y (λ e. omega arith))

times_byte : (x : ℕ) → x < opcode_count → (f : ℕ → ℕ) (i from k : ℕ)
    → times x (take i (over (λ j. only (in_byte (f j))) from k)) ≡ times x (take i (over (λ j. only (f j)) from k))
unfolding times over
times_byte x h f zero from k = refl
times_byte x h f (suc i) from zero = refl
times_byte x h f (suc i) from (suc k) = rw (eqb_byte x (f from) h, times_byte x h f i (from + 1) k)

module _ (f : ℕ → ℕ) (i : ℕ) (lt : i < opcode_count) where
  abbrev held : List ℕ
  held = filled (λ j. in_byte (f j)) opcode_count

  abbrev numbers : List ℕ
  numbers = filled f opcode_count

  held_at : get_or held i 0 ≡ in_byte (f i)
  held_at = filled_at (λ j. in_byte (f j)) opcode_count i lt

  number_at : get_or numbers i 0 ≡ f i
  number_at = filled_at f opcode_count i lt

  verdict_byte : number_verdict held i ≡ number_verdict numbers i
  unfolding number_verdict
  verdict_byte = go (dec_lt (f i) opcode_count)
    where
      go : Dec (f i < opcode_count) → number_verdict held i ≡ number_verdict numbers i
      go (yes l) = rw (held_at, number_at, byte_small (f i) l, times_byte (f i) l f i 0 opcode_count)
      go (no m) =
          rw (
            held_at,
            number_at,
            lt-ltb highest_opcode (in_byte (f i)) (omega arith),
            lt-ltb highest_opcode (f i) (omega arith),
          )

first_same : (f g : ℕ → Verdict) (from k : ℕ) → ((i : ℕ) → i < k → f (from + i) ≡ g (from + i)) → first_refusal f from k ≡ first_refusal g from k
unfolding first_refusal
first_same f g from zero h = refl
first_same f g from (suc k) h =
    let z : from + 0 ≡ from = omega arith in
    let first : f from ≡ g from = rw z at (h 0 (omega arith)) in
    let rest = first_same f g (from + 1) k (λ i lt. subst (λ (x : ℕ). f x ≡ g x) (omega arith) (h (suc i) (omega arith))) in
    rw (first, rest)

pub bytes_verdict : (s : List ℕ) → first_refusal (number_verdict (table_bytes s)) 0 opcode_count ≡ first_refusal (number_verdict (table_of s)) 0 opcode_count
bytes_verdict s =
    first_same (number_verdict (table_bytes s)) (number_verdict (table_of s)) 0 opcode_count
    (λ i lt.
    let z : 0 + i ≡ i = omega arith in
    rw z (verdict_byte (λ j. number_said (table_line s j)) i lt))

-- ------------------------------------------------------------ one line, one number

-- what one line is found to be
pub says_none_is : (r : Option ℕ) {n : Numeral} (b : Bool) → numeral_of r ≡ n → is_some r ≡ not b → says_none n ≡ b
says_none_is (Some x) true e h = cc
says_none_is (Some x) false e h = sym (ap says_none e)
says_none_is None true e h = sym (ap says_none e)
says_none_is None false e h = cc

pub form_wrong : (s : List ℕ) (i : ℕ) → says_none (table_line s i) ≡ true → form_verdict s i ≡ wrong 34 i
unfolding form_verdict
form_wrong s i h = rw h

pub form_right : (s : List ℕ) (i : ℕ) → says_none (table_line s i) ≡ false → form_verdict s i ≡ fine
unfolding form_verdict
form_right s i h = rw h

pub number_above : (xs : List ℕ) (i : ℕ) → highest_opcode < get_or xs i 0 → number_verdict xs i ≡ wrong 35 i
unfolding number_verdict
number_above xs i h = rw (lt-ltb highest_opcode (get_or xs i 0) h)

pub number_again : (xs : List ℕ) (i : ℕ) → get_or xs i 0 ≤ highest_opcode → repeated xs i ≡ true → number_verdict xs i ≡ wrong 35 i
unfolding number_verdict
number_again xs i h t = rw (le-ltb highest_opcode (get_or xs i 0) h, t)

pub number_right : (xs : List ℕ) (i : ℕ) → get_or xs i 0 ≤ highest_opcode → repeated xs i ≡ false → number_verdict xs i ≡ fine
unfolding number_verdict
number_right xs i h t = rw (le-ltb highest_opcode (get_or xs i 0) h, t)

-- whether a number stands in an earlier line
pub contained : (x : ℕ) (xs : List ℕ) → list_any (λ y. eqb y x) xs ≡ ltb 0 (times x xs)
unfolding times
contained x [] = refl
contained x (y ∷ ys) = go (ℕ_discrete x y) (contained x ys)
  where
    go : Dec (x ≡ y) → list_any (λ y. eqb y x) ys ≡ ltb 0 (times x ys) → list_any (λ y. eqb y x) (y ∷ ys) ≡ ltb 0 (cond (eqb x y) 1 0 + times x ys)
    go (yes e) behind = rw (eq-eqb x y e, eq-eqb y x (sym e)) (sym (lt-ltb 0 (1 + times x ys) (omega arith)))
    go (no n) behind =
        let none : 0 + times x ys ≡ times x ys = omega arith in
        rw (ne_eqb x y n, ne_eqb y x (λ e. n (sym e)), none) behind

-- and all of them: the length, the forms, the numbers
pub length_wrong : (s : List ℕ) → (length s ≡ table_length → ⊥) → load_verdict s ≡ wrong 34 0
unfolding load_verdict
length_wrong s h = rw (ne_eqb (length s) table_length h)

pub forms_wrong : (s : List ℕ) (k p : ℕ) → length s ≡ table_length → wrong k p ≡ first_refusal (form_verdict s) 0 opcode_count
    → wrong k p ≡ load_verdict s
unfolding load_verdict
forms_wrong s k p long e = rw (long, ← e)

pub numbers_decide : (s : List ℕ) (v : Verdict) → length s ≡ table_length → fine ≡ first_refusal (form_verdict s) 0 opcode_count
    → v ≡ first_refusal (number_verdict (table_bytes s)) 0 opcode_count → v ≡ load_verdict s
unfolding load_verdict
numbers_decide s v long e n = rw (long, ← e, ← bytes_verdict s, ← n)
