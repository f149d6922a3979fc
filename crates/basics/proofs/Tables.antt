-- Lists given by what stands at each index, and how a loop fills an array with them. Assumes nothing.
use Prim.Native.Nat.{ℕ, zero, suc, ◌+◌, ◌<◌}
use native.Mathlib.Omega.{arith}
use native.Mathlib.Decide.{ℕ_discrete}
use mathlib.Core.List.{List}
use mathlib.Core.Path.{◌≡◌, refl, ◌∙◌, sym, ap, subst}
use lib.ListN.{length, get_or, set}
use lib.Seq.{get_or-set_same, get_or-set_other, ext_get_or}
use Rattle.basics.specs.Range.{sum, over, only, table}
use Rattle.basics.proofs.Range.{over_at, over_length, sum_split}

module _ {A : Type 0} (f : ℕ → A) (d : A) where
  pub rows_at : (n i : ℕ) → i < n → get_or (over (λ j. only (f j)) 0 n) i d ≡ f i
  rows_at n i lt = over_at f 0 n i d lt ∙ ap f (omega arith)

  -- a list that has f's values is given by f
  pub rows_by : (a : List A) (n : ℕ) → length a ≡ n → ((i : ℕ) → i < length a → get_or a i d ≡ f i) → a ≡ over (λ j. only (f j)) 0 n
  rows_by a n e h =
      ext_get_or d a (over (λ j. only (f j)) 0 n) (e ∙ sym (over_length f 0 n)) (λ i lt. h i lt ∙ sym (rows_at n i (rw e at lt)))

  -- one entry more
  pub row_more : (a : List A) (i : ℕ) (v : A) → v ≡ f i → i < length a → ((k : ℕ) → k < i → get_or a k d ≡ f k) → (k : ℕ) → k < i + 1 → get_or (set a i v) k d ≡ f k
  row_more a i v q h below k l = go (ℕ_discrete k i)
    where
      go : Dec (k ≡ i) → get_or (set a i v) k d ≡ f k
      go (yes e) = rw e (get_or-set_same a i v d h ∙ q)
      go (no n) = get_or-set_other a i k v d n ∙ (let m : k < i = omega arith in below k m)

module _ (f : ℕ → ℕ) where
  pub table_at : (n i : ℕ) → i < n → get_or (table f n) i 0 ≡ f i
  table_at = rows_at f 0

  pub table_length : (n : ℕ) → length (table f n) ≡ n
  table_length n = over_length f 0 n

  -- a list that has f's values is the table
  pub tabled : (a : List ℕ) (n : ℕ) → length a ≡ n → ((i : ℕ) → i < length a → get_or a i 0 ≡ f i) → a ≡ table f n
  tabled = rows_by f 0

  pub sum_more : (i : ℕ) → sum f 0 (i + 1) ≡ sum f 0 i + f i
  unfolding sum
  sum_more i = let z : 0 + i ≡ i = omega arith in omega (arith, rw z at (sum_split f 0 i 1))

  pub sum_none : (from k : ℕ) → ((i : ℕ) → i < k → f (from + i) ≡ 0) → sum f from k ≡ 0
  unfolding sum
  sum_none from zero h = refl
  sum_none from (suc k) h =
      let z : from + 0 ≡ from = omega arith in
      let first : f from ≡ 0 = rw z at (h 0 (omega arith)) in
      omega (arith, sum_none (from + 1) k (λ i lt. subst (λ (x : ℕ). f x ≡ 0) (omega arith) (h (suc i) (omega arith))))

  -- the sum of what agrees
  pub sum_same : (g : ℕ → ℕ) (from k : ℕ) → ((i : ℕ) → i < k → f (from + i) ≡ g (from + i)) → sum f from k ≡ sum g from k
  unfolding sum
  sum_same g from zero h = refl
  sum_same g from (suc k) h =
      let z : from + 0 ≡ from = omega arith in
      let first : f from ≡ g from = rw z at (h 0 (omega arith)) in
      omega (arith, sum_same g (from + 1) k (λ i lt. subst (λ (x : ℕ). f x ≡ g x) (omega arith) (h (suc i) (omega arith))))
