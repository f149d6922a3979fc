-- Laws of going over a range of numbers. Assumes nothing.
use mathlib.Core.Bool.{Bool, cond, true, false}
use Rattle.basics.specs.Range.{times, over, sum, only}
use Prim.Native.Nat.{ℕ, ◌≤◌, ◌<◌, ◌+◌, ◌-◌, suc, zero}
use mathlib.Core.List.{List, ◌∷◌, [], ◌++◌, append-nil, append_assoc}
use lib.ListN.{length, get_or, set}
use mathlib.Core.Path.{◌≡◌, subst, ap, ◌∙◌, sym, refl}
use borrow.Author.Tests.{eq-eqb, ltb-true, ltb-false}
use native.Mathlib.Omega.{arith}
use Rattle.basics.proofs.Tests.{either_way}
use lib.Dec.{ltb}

pub sum_one : (f : ℕ → ℕ) (from k i : ℕ) → i < k → f (from + i) ≤ sum f from k
unfolding sum
sum_one f from zero i lt = omega arith
sum_one f from (suc k) zero lt = let e : f (from + 0) ≡ f from = ap f (omega arith) in omega arith
sum_one f from (suc k) (suc i) lt = let e : f (from + suc i) ≡ f (from + 1 + i) = ap f (omega arith) in omega (arith, sum_one f (from + 1) k i (omega arith))

pub sum_two : (f : ℕ → ℕ) (from k i j : ℕ) → i < j → j < k → f (from + i) + f (from + j) ≤ sum f from k
unfolding sum
sum_two f from zero i j lt l = omega arith
sum_two f from (suc k) zero zero lt l = omega arith
sum_two f from (suc k) zero (suc j) lt l =
    let e : f (from + 0) ≡ f from = ap f (omega arith) in
    let d : f (from + suc j) ≡ f (from + 1 + j) = ap f (omega arith) in
    omega (arith, sum_one f (from + 1) k j (omega arith))
sum_two f from (suc k) (suc i) zero lt l = omega arith
sum_two f from (suc k) (suc i) (suc j) lt l =
    let e : f (from + suc i) ≡ f (from + 1 + i) = ap f (omega arith) in
    let d : f (from + suc j) ≡ f (from + 1 + j) = ap f (omega arith) in
    omega (arith, sum_two f (from + 1) k i j (omega arith) (omega arith))

pub sum_split : (f : ℕ → ℕ) (from a b : ℕ) → sum f from (a + b) ≡ sum f from a + sum f (from + a) b
unfolding sum
sum_split f from zero b =
    let e : 0 + b ≡ b = omega arith in
    let d : from + 0 ≡ from = omega arith in
    rw (e, d) (omega arith)
sum_split f from (suc a) b =
    let e : suc a + b ≡ suc (a + b) = omega arith in
    let d : from + suc a ≡ from + 1 + a = omega arith in
    rw (e, d) (omega (arith, sum_split f (from + 1) a b))

-- the sum up to j is below that up to k, where something counts at j
pub sum_grows : (f : ℕ → ℕ) (j k : ℕ) → 1 ≤ f j → j < k → sum f 0 j < sum f 0 k
unfolding sum
sum_grows f j k h lt =
    let e : k ≡ j + suc (k - suc j) = omega arith in
    let whole : sum f 0 k ≡ sum f 0 (j + suc (k - suc j)) = ap (sum f 0) e in
    let z : 0 + j ≡ j = omega arith in
    omega (arith, rw z at (sum_split f 0 j (suc (k - suc j))))

-- the same from 0 on, for one place and for two
pub sum_at : (f : ℕ → ℕ) (k i : ℕ) → i < k → f i ≤ sum f 0 k
sum_at f k i lt = let e : 0 + i ≡ i = omega arith in rw e at (sum_one f 0 k i lt)

pub sum_pair : (f : ℕ → ℕ) (k i j : ℕ) → i < k → j < k → (i ≡ j → ⊥) → f i + f j ≤ sum f 0 k
sum_pair f k i j a b ne =
    let e : 0 + i ≡ i = omega arith in
    let d : 0 + j ≡ j = omega arith in
    either_way (ltb i j)
    (λ h. rw (e, d) at (sum_two f 0 k i j (ltb-true i j h) b))
    (λ h. omega (arith, rw (d, e) at (sum_two f 0 k j i (omega (arith, ltb-false i j h)) a)))

-- ------------------------------------------------------------ lists over a range

pub over_split : {A : Type 0} (f : ℕ → List A) (from a b : ℕ)
    → over f from (a + b) ≡ over f from a ++ over f (from + a) b
unfolding over
over_split f from zero b =
    let e : 0 + b ≡ b = omega arith in
    let d : from + 0 ≡ from = omega arith in
    rw (e, d)
over_split {A} f from (suc a) b =
    let e : suc a + b ≡ suc (a + b) = omega arith in
    let d : from + suc a ≡ from + 1 + a = omega arith in
    rw (e, d) (ap {B = List A} (λ (x : List A). f from ++ x) (over_split f (from + 1) a b) ∙ sym (append_assoc (f from) (over f (from + 1) a) (over f (from + 1 + a) b)))

pub over_none : {A : Type 0} (f : ℕ → List A) (from k : ℕ) → ((i : ℕ) → i < k → f (from + i) ≡ []) → over f from k ≡ []
unfolding over
over_none f from zero h = refl
over_none {A} f from (suc k) h =
    let e : from + 0 ≡ from = omega arith in
    rw (rw e at (h 0 (omega arith)))
    (over_none f (from + 1) k (λ i lt. subst (λ (x : ℕ). f x ≡ []) (omega arith) (h (suc i) (omega arith))))

-- nothing but at one place
pub over_only : {A : Type 0} (f : ℕ → List A) (k i : ℕ) → i < k → ((j : ℕ) → j < k → (j ≡ i → ⊥) → f j ≡ [])
    → over f 0 k ≡ f i
unfolding over
over_only {A} f k i lt h =
    let whole : k ≡ i + suc (k - suc i) = omega arith in
    let z : 0 + i ≡ i = omega arith in
    let before : over f 0 i ≡ [] = over_none f 0 i (λ j l. h (0 + j) (omega arith) (λ e. omega arith)) in
    let after : over f (i + 1) (k - suc i) ≡ [] = over_none f (i + 1) (k - suc i) (λ j l. h (i + 1 + j) (omega arith) (λ e. omega arith)) in
    ap {B = List A} (over f 0) whole ∙ (over_split f 0 i (suc (k - suc i)) ∙ rw (before, z, after) (append-nil (f i)))

module _ {A : Type 0} (f : ℕ → Bool) (g : ℕ → A) where
  -- those of a range that pass a test: how many they are
  pub chosen_length : (from k : ℕ)
      → length (over (λ j. cond (f j) (only (g j)) []) from k) ≡ sum (λ j. cond (f j) 1 0) from k
  unfolding over sum
  chosen_length from zero = refl
  chosen_length from (suc k) = one (f from) (chosen_length (from + 1) k)
    where
      one : (b : Bool) {n : ℕ} → length (over (λ j. cond (f j) (only (g j)) []) (from + 1) k) ≡ n
          → length (cond b (only (g from)) [] ++ over (λ j. cond (f j) (only (g j)) []) (from + 1) k) ≡ cond b 1 0 + n
      one true e = omega arith
      one false e = omega arith

  -- and which stands at each one's number
  pub chosen_split : (k j : ℕ) → j < k → f j ≡ true
      → over (λ j. cond (f j) (only (g j)) []) 0 k ≡ over (λ j. cond (f j) (only (g j)) []) 0 j ++ (g j ∷ over (λ j. cond (f j) (only (g j)) []) (j + 1) (k - suc j))
  unfolding over
  chosen_split k j lt t =
      let whole : k ≡ j + suc (k - suc j) = omega arith in
      let z : 0 + j ≡ j = omega arith in
      ap {B = List A} (over (λ j. cond (f j) (only (g j)) []) 0) whole ∙ (over_split (λ j. cond (f j) (only (g j)) []) 0 j (suc (k - suc j)) ∙ rw (z, t))

pub times_here : (x y : ℕ) (ys : List ℕ) → x ≡ y → 1 ≤ times x (y ∷ ys)
unfolding times
times_here x y ys e = rw (eq-eqb x y e) (omega arith)

pub times_second : (x y : ℕ) → 1 ≤ times x (y ∷ x ∷ [])
unfolding times
times_second x y = rw (eq-eqb x x refl) (omega arith)

pub times_both : (x y z : ℕ) (ys : List ℕ) → x ≡ y → x ≡ z → 2 ≤ times x (y ∷ z ∷ ys)
unfolding times
times_both x y z ys e d = rw (eq-eqb x y e, eq-eqb x z d) (omega arith)

-- ------------------------------------------------------------ lists with one entry for each number

module _ {A : Type 0} where
  pub over_length : (f : ℕ → A) (from k : ℕ) → length (over (λ j. only (f j)) from k) ≡ k
  unfolding over
  over_length f from zero = refl
  over_length f from (suc k) = ap suc (over_length f (from + 1) k)

  pub over_at : (f : ℕ → A) (from k m : ℕ) (d : A) → m < k → get_or (over (λ j. only (f j)) from k) m d ≡ f (from + m)
  unfolding over
  over_at f from zero m d h = absurd (omega arith)
  over_at f from (suc k) zero d h = ap f (omega arith)
  over_at f from (suc k) (suc m) d h = over_at f (from + 1) k m d (omega arith) ∙ ap f (omega arith)

  pub over_same : (f g : ℕ → A) (from k : ℕ) → ((j : ℕ) → j < k → f (from + j) ≡ g (from + j))
      → over (λ j. only (f j)) from k ≡ over (λ j. only (g j)) from k
  unfolding over
  over_same f g from zero h = refl
  over_same f g from (suc k) h =
      let z : from + 0 ≡ from = omega arith in
      let first : f from ≡ g from = rw z at (h 0 (omega arith)) in
      let rest = over_same f g (from + 1) k (λ j l. subst (λ (x : ℕ). f x ≡ g x) (omega arith) (h (suc j) (omega arith))) in
      λ i. first i ∷ rest i

  -- two that differ at one number only
  pub over_set : (f g : ℕ → A) (v : A) (from k m : ℕ)
      → (m < k → v ≡ g (from + m)) → ((j : ℕ) → j < k → (j ≡ m → ⊥) → f (from + j) ≡ g (from + j))
      → set (over (λ j. only (f j)) from k) m v ≡ over (λ j. only (g j)) from k
  unfolding over
  over_set f g v from zero m e h = refl
  over_set f g v from (suc k) zero e h =
      let z : from + 0 ≡ from = omega arith in
      let first : v ≡ g from = rw z at (e (omega arith)) in
      let rest = over_same f g (from + 1) k (λ j l. subst (λ (x : ℕ). f x ≡ g x) (omega arith) (h (suc j) (omega arith) (λ d. omega arith))) in
      λ i. first i ∷ rest i
  over_set f g v from (suc k) (suc m) e h =
      let z : from + 0 ≡ from = omega arith in
      let first : f from ≡ g from = rw z at (h 0 (omega arith) (λ d. omega arith)) in
      let rest = over_set f g v (from + 1) k m
      (λ l. e (omega arith) ∙ ap g (omega arith))
      (λ j l n. subst (λ (x : ℕ). f x ≡ g x) (omega arith) (h (suc j) (omega arith) (λ d. n (omega arith)))) in
      λ i. first i ∷ rest i
