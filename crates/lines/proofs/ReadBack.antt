-- A number in 7 columns is read back, and nothing else reads as it. Assumes nothing.
use Prim.Native.Nat.{ℕ, zero, suc, ◌+◌, ◌-◌, ◌*◌, ◌/◌, ◌%◌, ◌^◌, ◌≤◌, ◌<◌}
use mathlib.Core.Bool.{Bool, true, false, cond, not, ◌&&◌, true≢false}
use mathlib.Core.Path.{◌≡◌, refl, sym, ap, ◌∙◌}
use mathlib.Core.List.{List, [], ◌∷◌, ◌++◌, append_assoc, append-nil}
use mathlib.Core.Logic.{⊎_elim}
use native.Mathlib.Nat.{pow-succ', pow-le-pow_right}
use native.Mathlib.Decide.{ℕ_discrete, dec_lt}
use native.Mathlib.Omega.{arith}
use borrow.Author.Tests.{leb-true, eqb-true, le-leb, lt-ltb, eq-eqb, ne_eqb, ltb-true, ltb-false}
use lib.Dec.{eqb, leb, ltb}
use Rattle.std.specs.Prelude.{Option, Some, None, position, slice_range, if◌then◌else◌}
use Rattle.std.specs.List.{position_or_len}
use Rattle.std.proofs.lemmas.List.Sums.{passes_at_first}
use lib.ListN.{length, get_or, take, drop, replicate, length-drop, get_or-eq_default, drop_of_length-le}
use lib.Seq.{drop-cons, take_all, take-suc, take_at, get_or_at, get_or-take, get_or-drop, take-take, length-take-le}
use Rattle.lines.specs.Line.{blank, digit, decimal, column, width, line_feed}
use Rattle.lines.specs.Cell.{most_in_columns}
use Rattle.lines.specs.Numeral.{Numeral, number, other_form, is_digit, digits_say, leading_zero, column_says}
use Rattle.lines.specs.Numeral.{line_length, line_says, number_line, ReadsBack}
use Rattle.lines.proofs.Decimal.{few_or_more, decimal_few, decimal_more, column_length}

-- ------------------------------------------------------------ the definitions' cases

-- a case that says a number
said : (c : Bool) (n : Numeral) (x : ℕ) → cond c n other_form ≡ number x → (c ≡ true) × (n ≡ number x)
said true n x e = (refl, e)
said false n x e = (cc, cc)

number_is : {x y : ℕ} → number x ≡ number y → x ≡ y
number_is e = cc

pub is_digit_lem : (b : ℕ) → digit 0 ≤ b → b ≤ digit 9 → is_digit b ≡ true
is_digit_lem b l m = rw (le-leb (digit 0) b l, le-leb b (digit 9) m)

pub digit_least : (b : ℕ) → is_digit b ≡ true → digit 0 ≤ b
digit_least b h = leb-true (digit 0) b (first (leb (digit 0) b) (leb b (digit 9)) h)
  where
    first : (c d : Bool) → c && d ≡ true → c ≡ true
    first true d e = refl
    first false d e = e

pub digit_most : (b : ℕ) → is_digit b ≡ true → b ≤ digit 9
digit_most b h = leb-true b (digit 9) (second (leb (digit 0) b) (leb b (digit 9)) h)
  where
    second : (c d : Bool) → c && d ≡ true → d ≡ true
    second true d e = e
    second false d e = cc

pub digits_more : (x b : ℕ) (bs : List ℕ) → is_digit b ≡ true → digits_say x (b ∷ bs) ≡ digits_say (10 * x + (b - digit 0)) bs
unfolding digits_say
digits_more x b bs h = rw h

pub digits_other : (x b : ℕ) (bs : List ℕ) → is_digit b ≡ false → digits_say x (b ∷ bs) ≡ other_form
unfolding digits_say
digits_other x b bs h = rw h

pub column_blank : (b : ℕ) (bs : List ℕ) → b ≡ blank → column_says (b ∷ bs) ≡ column_says bs
unfolding column_says
column_blank b bs e = rw (eq-eqb b blank e)

pub column_zero : (b : ℕ) (bs : List ℕ) → b ≡ digit 0 → 0 < length bs → column_says (b ∷ bs) ≡ other_form
unfolding column_says
column_zero b bs e h = rw (e, lt-ltb 0 (length bs) h)

pub column_digits : (b : ℕ) (bs : List ℕ) → (b ≡ blank → ⊥) → leading_zero b bs ≡ false → column_says (b ∷ bs) ≡ digits_say 0 (b ∷ bs)
unfolding column_says
column_digits b bs n z = rw (ne_eqb b blank n, z)

-- ------------------------------------------------------------ byte after byte, as the code goes

-- what a byte says as a digit
abbrev digit_of : ℕ → Option ℕ
digit_of b = if is_digit b then Some (b - digit 0) else None

some_digit : (b d : ℕ) → Some d ≡ digit_of b → (is_digit b ≡ true) × (d ≡ b - digit 0)
some_digit b d = go (is_digit b)
  where
    go : (c : Bool) → Some d ≡ (if c then Some (b - digit 0) else None) → (c ≡ true) × (d ≡ b - digit 0)
    go true e = (refl, cc)
    go false e = cc

no_digit : (b : ℕ) → None ≡ digit_of b → is_digit b ≡ false
no_digit b = go (is_digit b)
  where
    go : (c : Bool) → None ≡ (if c then Some (b - digit 0) else None) → c ≡ false
    go true e = cc
    go false e = refl

module _ (bs : List ℕ) (i : ℕ) (h : i < length bs) where
  here : drop i bs ≡ get_or bs i 0 ∷ drop (i + 1) bs
  here =
      let next : i + 1 ≡ suc i = omega arith in
      rw next (drop-cons bs i 0 h)

  pub digits_turn : (x d : ℕ) → Some d ≡ digit_of (get_or bs i 0)
      → (d < 10) × (digits_say x (drop i bs) ≡ digits_say (10 * x + d) (drop (i + 1) bs))
  digits_turn x d e =
      let (is, d_is) = some_digit (get_or bs i 0) d e in
      (omega (arith, digit_most (get_or bs i 0) is), rw (d_is, here) (digits_more x (get_or bs i 0) (drop (i + 1) bs) is))

  pub digits_stop : (x : ℕ) → None ≡ digit_of (get_or bs i 0) → digits_say x (drop i bs) ≡ other_form
  digits_stop x e = rw here (digits_other x (get_or bs i 0) (drop (i + 1) bs) (no_digit (get_or bs i 0) e))

  pub zero_leads : get_or bs i 0 ≡ digit 0 → i + 1 < length bs → column_says (drop i bs) ≡ other_form
  zero_leads e l = rw here (column_zero (get_or bs i 0) (drop (i + 1) bs) e (omega (arith, length-drop (i + 1) bs)))

  pub digits_lead : (get_or bs i 0 ≡ blank → ⊥) → (get_or bs i 0 ≡ digit 0 → ⊥) → column_says (drop i bs) ≡ digits_say 0 (drop i bs)
  digits_lead n z =
      rw here (column_digits (get_or bs i 0) (drop (i + 1) bs) n (rw (ne_eqb (get_or bs i 0) (digit 0) z)))

  pub digit_alone : (get_or bs i 0 ≡ blank → ⊥) → length bs ≤ i + 1 → column_says (drop i bs) ≡ digits_say 0 (drop i bs)
  digit_alone n l =
      let none : drop (i + 1) bs ≡ [] = drop_of_length-le bs l in
      rw (here, none) (column_digits (get_or bs i 0) [] n (no_more (eqb (get_or bs i 0) (digit 0))))
    where
      no_more : (c : Bool) → c && false ≡ false
      no_more true = refl
      no_more false = refl

pub columns_end : (bs : List ℕ) (i : ℕ) → length bs ≤ i → column_says (drop i bs) ≡ other_form
unfolding column_says
columns_end bs i h = rw (drop_of_length-le bs h)

-- a byte that is no blank, and where the first of them stands
abbrev pub other : ℕ → Bool
other b = not (eqb b blank)

abbrev first_other : List ℕ → ℕ
first_other bs = position_or_len other bs

-- the blanks before it say nothing
blanks_pass : (bs : List ℕ) → column_says bs ≡ column_says (drop (first_other bs) bs)
unfolding column_says
blanks_pass [] = refl
blanks_pass (b ∷ bs) = go (eqb b blank) refl (blanks_pass bs)
  where
    one_more : 1 + first_other bs ≡ suc (first_other bs)
    one_more = omega arith

    go : (c : Bool) → eqb b blank ≡ c → column_says bs ≡ column_says (drop (first_other bs) bs)
        → column_says (b ∷ bs) ≡ column_says (drop (first_other (b ∷ bs)) (b ∷ bs))
    go true e behind = rw (e, one_more) behind
    go false e behind =
        let here : b ∷ bs ≡ drop (first_other (b ∷ bs)) (b ∷ bs) = rw e refl in
        ap column_says here

pub record FirstOther (bs : List ℕ) (i : ℕ) : Type 0 where
  pub inside : i < length bs
  pub no_blank : get_or bs i 0 ≡ blank → ⊥
  pub behind : column_says bs ≡ column_says (drop i bs)

pub first_other_is : (bs : List ℕ) (i : ℕ) → position other bs ≡ Some i → FirstOther bs i
first_other_is bs i = go (ltb (first_other bs) (length bs)) refl
  where
    go : (c : Bool) → ltb (first_other bs) (length bs) ≡ c → cond c (Some (first_other bs)) None ≡ Some i → FirstOther bs i
    go true l e =
        let is : first_other bs ≡ i = cc in
        let room = ltb-true (first_other bs) (length bs) l in
        rw (← is) (record { inside = room; no_blank = λ z. true≢false (sym (passes_at_first other bs 0 room) ∙ ap not (eq-eqb _ _ z)); behind = blanks_pass bs })
    go false m e = cc

pub no_other_is : (bs : List ℕ) → position other bs ≡ None → column_says bs ≡ other_form
no_other_is bs = go (ltb (first_other bs) (length bs)) refl
  where
    go : (c : Bool) → ltb (first_other bs) (length bs) ≡ c → cond c (Some (first_other bs)) None ≡ None → column_says bs ≡ other_form
    go true l e = cc
    go false m e = blanks_pass bs ∙ columns_end bs (first_other bs) (ltb-false (first_other bs) (length bs) m)

pub take_rest : (bs : List ℕ) (i : ℕ) → take (length bs - i) (drop i bs) ≡ drop i bs
take_rest bs i = take_all (length bs - i) (drop i bs) (omega (arith, length-drop i bs))

pub digits_end : (bs : List ℕ) (i x : ℕ) → length bs ≤ i → digits_say x (drop i bs) ≡ number x
unfolding digits_say
digits_end bs i x h = rw (drop_of_length-le bs h)

pub line_other : (s : List ℕ) (i : ℕ) → (get_or s (i + width) 0 ≡ line_feed → ⊥) → line_says s i ≡ other_form
unfolding line_says
line_other s i n = rw (ne_eqb (get_or s (i + width) 0) line_feed n)

pub line_cut : (s : List ℕ) (i : ℕ) → length s ≤ i + width → line_says s i ≡ other_form
line_cut s i h = line_other s i (λ e. omega (arith, get_or-eq_default s 0 h))

-- the 8 bytes of the line from i on
module _ (s : List ℕ) (i : ℕ) (line : List ℕ) (e : line ≡ take line_length (drop i s)) where
  feed_of : get_or line width 0 ≡ get_or s (i + width) 0
  feed_of = rw e (get_or-take line_length (drop i s) width 0 (omega arith) ∙ get_or-drop i s width 0)

  pub line_unended : (get_or line width 0 ≡ line_feed → ⊥) → line_says s i ≡ other_form
  line_unended n = line_other s i (λ f. n (feed_of ∙ f))

  pub line_columns : get_or line width 0 ≡ line_feed → column_says (take width line) ≡ line_says s i
  unfolding line_says
  line_columns f =
      let feed : get_or s (i + width) 0 ≡ line_feed = sym feed_of ∙ f in
      rw (feed, e) (ap column_says (take-take width line_length (drop i s) (omega arith)))

pub line_from : (s rest line : List ℕ) (i : ℕ) → rest ≡ slice_range s i (length s) → line ≡ slice_range rest 0 line_length
    → line ≡ take line_length (drop i s)
line_from s rest line i e f = f ∙ ap (take line_length) (e ∙ take_rest s i)

-- ------------------------------------------------------------ what is printed is read

-- one digit more
digits_last : (x y : ℕ) (bs : List ℕ) (d : ℕ) → digits_say x bs ≡ number y → d < 10 → digits_say x (bs ++ (digit d ∷ [])) ≡ number (10 * y + d)
unfolding digits_say
digits_last x y [] d e h =
    let same : x ≡ y = number_is e in
    digits_more x (digit d) [] (is_digit_lem (digit d) (omega arith) (omega arith)) ∙ ap number (omega arith)
digits_last x y (b ∷ bs) d e h =
    let (t, more) = said (is_digit b) (digits_say (10 * x + (b - digit 0)) bs) y e in
    digits_more x b (bs ++ (digit d ∷ [])) t ∙ digits_last (10 * x + (b - digit 0)) y bs d more h

-- the digits of a number below 10 ^ (k + 1)
few_says : (x : ℕ) → x < 10 → digits_say 0 (decimal x) ≡ number x
unfolding digits_say
few_says x few =
    let is = is_digit_lem (digit (x % 10)) (omega arith) (omega arith) in
    rw (decimal_few x few) (digits_more 0 (digit (x % 10)) [] is ∙ ap number (omega arith))

decimal_says : (k x : ℕ) → x < 10 ^ suc k → x < 2 ^ 64 → digits_say 0 (decimal x) ≡ number x
decimal_says zero x h l = few_says x h
decimal_says (suc k) x h l =
    let above = decimal_says k (x / 10) (omega (arith, pow-succ' 10 (suc k))) (omega arith) in
    ⊎_elim
    (few_says x)
    (λ more. rw (decimal_more x more l) (digits_last 0 (x / 10) (decimal (x / 10)) (x % 10) above (omega arith) ∙ ap number (omega arith)))
    (few_or_more x)

-- a number from 1 on has no zero before it
few_leads : (x : ℕ) (ds : List ℕ) → 0 < x → x < 10 → column_says (decimal x ++ ds) ≡ digits_say 0 (decimal x ++ ds)
few_leads x ds some few =
    let no_zero : leading_zero (digit (x % 10)) ds ≡ false = rw (ne_eqb (digit (x % 10)) (digit 0) (λ e. omega arith)) in
    rw (decimal_few x few) (column_digits (digit (x % 10)) ds (λ e. omega arith) no_zero)

decimal_leads : (k x : ℕ) (ds : List ℕ) → x < 10 ^ suc k → x < 2 ^ 64 → 0 < x
    → column_says (decimal x ++ ds) ≡ digits_say 0 (decimal x ++ ds)
decimal_leads zero x ds h l some = few_leads x ds some h
decimal_leads (suc k) x ds h l some =
    ⊎_elim
    (few_leads x ds some)
    (λ more.
    let last = digit (x % 10) ∷ [] in
    let above = decimal_leads k (x / 10) (last ++ ds) (omega (arith, pow-succ' 10 (suc k))) (omega arith) (omega arith) in
    rw (decimal_more x more l, append_assoc (decimal (x / 10)) last ds) above)
    (few_or_more x)

blanks_skipped : (k : ℕ) (bs : List ℕ) → column_says (replicate k blank ++ bs) ≡ column_says bs
blanks_skipped zero bs = refl
blanks_skipped (suc k) bs = column_blank blank (replicate k blank ++ bs) refl ∙ blanks_skipped k bs

zero_says : column_says (digit 0 ∷ []) ≡ number 0
unfolding column_says digits_say
zero_says = refl

digits_say_lem : (x : ℕ) → x ≤ most_in_columns → column_says (decimal x) ≡ number x
digits_say_lem zero h = rw (decimal_few 0 (omega arith)) zero_says
digits_say_lem (suc x) h =
    let leads : column_says (decimal (suc x)) ≡ digits_say 0 (decimal (suc x)) =
    rw append-nil at (decimal_leads 6 (suc x) [] (omega arith) (omega arith) (omega arith)) in
    leads ∙ decimal_says 6 (suc x) (omega arith) (omega arith)

column_read_back : (x : ℕ) → x ≤ most_in_columns → column_says (column x) ≡ number x
unfolding column
column_read_back x h = blanks_skipped (width - length (decimal x)) (decimal x) ∙ digits_say_lem x h

-- ------------------------------------------------------------ what is read was printed

-- digits behind others say a larger number, and one that has no more digits
digits_grow : (x y : ℕ) (bs : List ℕ) → digits_say x bs ≡ number y → x ≤ y
unfolding digits_say
digits_grow x y [] e = omega (arith, number_is e)
digits_grow x y (b ∷ bs) e =
    let (t, more) = said (is_digit b) (digits_say (10 * x + (b - digit 0)) bs) y e in
    omega (arith, digits_grow (10 * x + (b - digit 0)) y bs more)

pub one_digit_more : (i x d : ℕ) → x < 10 ^ i → d < 10 → 10 * x + d < 10 ^ suc i
one_digit_more i x d h l = omega (arith, pow-succ' 10 i)

pub at_most_seven : (i x : ℕ) → x < 10 ^ i → i ≤ width → x ≤ most_in_columns
at_most_seven i x h l =
    let most : 10 ^ i ≤ 10 ^ 7 = pow-le-pow_right (omega arith) l in
    omega arith

digits_below : (i x y : ℕ) (bs : List ℕ) → digits_say x bs ≡ number y → x < 10 ^ i → y < 10 ^ (i + length bs)
unfolding digits_say
digits_below i x y [] e h =
    let z : i + 0 ≡ i = omega arith in
    rw (z, ← number_is e) h
digits_below i x y (b ∷ bs) e h =
    let (t, more) = said (is_digit b) (digits_say (10 * x + (b - digit 0)) bs) y e in
    let less : 10 * x + (b - digit 0) < 10 ^ suc i = one_digit_more i x (b - digit 0) h (omega (arith, digit_most b t)) in
    let next : i + suc (length bs) ≡ suc i + length bs = omega arith in
    rw next (digits_below (suc i) (10 * x + (b - digit 0)) y bs more less)

-- digits behind a number from 1 on: both are the number that they say
digits_printed : (x y : ℕ) (bs : List ℕ) → digits_say x bs ≡ number y → 0 < x → y < 2 ^ 64 → decimal y ≡ decimal x ++ bs
unfolding digits_say
digits_printed x y [] e some l = rw (number_is e) (sym (append-nil (decimal y)))
digits_printed x y (b ∷ bs) e some l =
    let (t, more) = said (is_digit b) (digits_say (10 * x + (b - digit 0)) bs) y e in
    let z = 10 * x + (b - digit 0) in
    let least = digit_least b t in
    let most = digit_most b t in
    let grown = digits_grow z y bs more in
    let above : z / 10 ≡ x = omega arith in
    let last : digit (z % 10) ≡ b = omega arith in
    digits_printed z y bs more (omega arith) l
    ∙ rw (decimal_more z (omega arith) (omega arith), above, last) (append_assoc (decimal x) (b ∷ []) bs)

-- columns that say x are blanks and the digits of x
record Printed (bs : List ℕ) (x : ℕ) : Type 0 where
  room : length (decimal x) ≤ length bs
  same : bs ≡ replicate (length bs - length (decimal x)) blank ++ decimal x
  small : x < 10 ^ length bs

blank_printed : (b : ℕ) (bs : List ℕ) (x : ℕ) → b ≡ blank → Printed bs x → Printed (b ∷ bs) x
blank_printed b bs x e p =
    let one_more : suc (length bs) - length (decimal x) ≡ suc (length bs - length (decimal x)) = omega (arith, p.room) in
    record {
      room = omega (arith, p.room);
      same = rw one_more (λ i. e i ∷ p.same i);
      small = omega (arith, p.small, pow-succ' 10 (length bs));
    }

all_printed : (bs : List ℕ) (x : ℕ) → decimal x ≡ bs → x < 10 ^ length bs → Printed bs x
all_printed bs x e h =
    let long : length (decimal x) ≡ length bs = ap length e in
    let none : length bs - length (decimal x) ≡ 0 = omega arith in
    record { room = omega arith; same = rw none (sym e); small = h }

not_other : {A : Type 0} {x : ℕ} → other_form ≡ number x → A
not_other e = absurd (true≢false cc)

zero_printed : (bs : List ℕ) (x : ℕ) → column_says (digit 0 ∷ bs) ≡ number x → Printed (digit 0 ∷ bs) x
zero_printed [] x e = rw (sym (number_is (sym zero_says ∙ e))) (all_printed (digit 0 ∷ []) 0 (decimal_few 0 (omega arith)) (omega arith))
zero_printed (c ∷ cs) x e = not_other (sym (column_zero (digit 0) (c ∷ cs) refl (omega arith)) ∙ e)

digits_only : (b : ℕ) (bs : List ℕ) (x : ℕ) → length (b ∷ bs) ≤ width → (b ≡ digit 0 → ⊥) → digits_say 0 (b ∷ bs) ≡ number x → Printed (b ∷ bs) x
unfolding digits_say
digits_only b bs x h nonzero e =
    let d = 0 + (b - digit 0) in
    let (t, more) = said (is_digit b) (digits_say d bs) x e in
    let least = digit_least b t in
    let most = digit_most b t in
    let z : 0 + length (b ∷ bs) ≡ length (b ∷ bs) = omega arith in
    let small : x < 10 ^ length (b ∷ bs) = rw z at (digits_below 0 0 x (b ∷ bs) e (omega arith)) in
    let last : digit (d % 10) ≡ b = omega arith in
    let all : decimal x ≡ b ∷ bs =
    digits_printed d x bs more (omega arith) (omega (arith, at_most_seven (length (b ∷ bs)) x small h))
    ∙ rw (decimal_few d (omega arith), last) refl in
    all_printed (b ∷ bs) x all small

printed : (bs : List ℕ) (x : ℕ) → length bs ≤ width → column_says bs ≡ number x → Printed bs x
unfolding column_says
printed [] x h e = not_other e
printed (b ∷ bs) x h e = go (ℕ_discrete b blank) (ℕ_discrete b (digit 0)) (λ says. printed bs x (omega arith) says)
  where
    go : Dec (b ≡ blank) → Dec (b ≡ digit 0) → (column_says bs ≡ number x → Printed bs x) → Printed (b ∷ bs) x
    go (yes is) z further = blank_printed b bs x is (further (sym (column_blank b bs is) ∙ e))
    go (no not) (yes is) further = rw is (zero_printed bs x (rw is at e))
    go (no not) (no nonzero) further =
        let leads : leading_zero b bs ≡ false = rw (ne_eqb b (digit 0) nonzero) in
        digits_only b bs x h nonzero (sym (column_digits b bs not leads) ∙ e)

column_only : (bs : List ℕ) (x : ℕ) → length bs ≡ width → column_says bs ≡ number x → (x ≤ most_in_columns) × (bs ≡ column x)
unfolding column
column_only bs x h e =
    let p = printed bs x (omega arith) e in
    (at_most_seven (length bs) x p.small (omega arith), rw h at p.same)

-- ------------------------------------------------------------ and so with lines

line_read_back : (s : List ℕ) (i x : ℕ) → x ≤ most_in_columns → take line_length (drop i s) ≡ number_line x → line_says s i ≡ number x
unfolding line_says
line_read_back s i x h e =
    let long = column_length x h in
    let feed : get_or s (i + width) 0 ≡ line_feed =
    sym (get_or-drop i s width 0) ∙ sym (get_or-take line_length (drop i s) width 0 (omega arith)) ∙ rw e (get_or_at (column x) line_feed [] 0 width long) in
    let columns : take width (drop i s) ≡ column x =
    sym (take-take width line_length (drop i s) (omega arith)) ∙ rw e (take_at (column x) (line_feed ∷ []) width long) in
    rw (feed, columns) (column_read_back x h)

line_only : (s : List ℕ) (i x : ℕ) → line_says s i ≡ number x → (x ≤ most_in_columns) × (take line_length (drop i s) ≡ number_line x)
unfolding line_says
line_only s i x e =
    let (t, says) = said (eqb (get_or s (i + width) 0) line_feed) (column_says (take width (drop i s))) x e in
    let feed = eqb-true (get_or s (i + width) 0) line_feed t in
    let room = inside s (i + width) (λ z. omega arith) in
    let left : width < length (drop i s) = omega (arith, length-drop i s) in
    let (small, columns) = column_only (take width (drop i s)) x (length-take-le width (drop i s) (omega arith)) says in
    (small, take-suc (drop i s) width 0 left ∙ rw (columns, get_or-drop i s width 0, feed) refl)
  where
    inside : (s : List ℕ) (i : ℕ) → (get_or s i 0 ≡ 0 → ⊥) → i < length s
    inside s i some = go (dec_lt i (length s))
      where
        go : Dec (i < length s) → i < length s
        go (yes l) = l
        go (no out) =
            let past : length s ≤ i = omega arith in
            absurd (some (get_or-eq_default s 0 past))

pub reads_back : ReadsBack
reads_back =
    record { column_read_back = column_read_back; column_only = column_only; line_read_back = line_read_back; line_only = line_only }
