-- The seven columns of a number, each from the number down to it. Assumes nothing.
use Prim.Native.Nat.{ℕ, zero, suc, ◌+◌, ◌-◌, ◌*◌, ◌/◌, ◌%◌, ◌^◌, ◌≤◌, ◌<◌}
use mathlib.Core.Bool.{cond}
use mathlib.Core.Path.{◌≡◌, refl, sym, ap, ◌∙◌}
use mathlib.Core.List.{List, [], ◌∷◌, ◌++◌, append_assoc}
use native.Mathlib.Decide.{dec_lt}
use native.Mathlib.Omega.{arith}
use borrow.Author.Tests.{lt-ltb}
use lib.Dec.{ltb}
use lib.ListN.{length, replicate}
use Rattle.lines.specs.Line.{blank, digit, decimal, column}
use Rattle.lines.specs.Cell.{most_in_columns, cell}
use Rattle.lines.proofs.Decimal.{decimal_few, decimal_more, length_few, length_more}

-- a cell is a sum: a blank, what a 0 is above it where there is a digit, and the digit
pub cell_sum : (q some : ℕ) → some ≡ cond (ltb 0 q) 1 0 → blank + 16 * some + q % 10 ≡ cell q
unfolding cell
cell_sum q some e = go (dec_lt 0 q)
  where
    go : Dec (0 < q) → blank + 16 * some + q % 10 ≡ cond (ltb 0 q) (digit (q % 10)) blank
    go (yes more) = rw (e, lt-ltb 0 q more)
    go (no none) =
        let zero_it : q ≡ 0 = omega arith in
        rw (e, zero_it)

-- x right-justified in k columns
just : ℕ → ℕ → List ℕ
just k x = replicate (k - length (decimal x)) blank ++ decimal x

-- the k columns before another one, where q is the number down to them: for 0 they are blank
lead : ℕ → ℕ → List ℕ
lead k q = cond (ltb 0 q) (just k q) (replicate k blank)

-- the last column is a digit
just_step : (k x : ℕ) → x < 2 ^ 64 → just (suc k) x ≡ lead k (x / 10) ++ (digit (x % 10) ∷ [])
unfolding just lead
just_step k x h = go (dec_lt x 10)
  where
    go : Dec (x < 10) → just (suc k) x ≡ lead k (x / 10) ++ (digit (x % 10) ∷ [])
    go (yes few) =
        let above : x / 10 ≡ 0 = omega arith in
        let left : suc k - 1 ≡ k = omega arith in
        rw (length_few x few, decimal_few x few, above, left)
    go (no many) =
        let more : 10 ≤ x = omega arith in
        let some : 0 < x / 10 = omega arith in
        let left : suc k - (length (decimal (x / 10)) + 1) ≡ k - length (decimal (x / 10)) = omega arith in
        rw (lt-ltb 0 (x / 10) some, length_more x more h, left, decimal_more x more h)
        (sym (append_assoc (replicate (k - length (decimal (x / 10))) blank) (decimal (x / 10)) (digit (x % 10) ∷ [])))

blanks_last : (k : ℕ) → replicate (suc k) blank ≡ replicate k blank ++ (blank ∷ [])
blanks_last zero = refl
blanks_last (suc k) = ap (λ (l : List ℕ). blank ∷ l) (blanks_last k)

-- a column before the last is a cell
lead_step : (k q : ℕ) → q < 2 ^ 64 → lead (suc k) q ≡ lead k (q / 10) ++ (cell q ∷ [])
unfolding cell lead
lead_step k q h = go (dec_lt 0 q)
  where
    go : Dec (0 < q) → lead (suc k) q ≡ lead k (q / 10) ++ (cell q ∷ [])
    go (yes some) = rw (lt-ltb 0 q some) (just_step k q h)
    go (no none) =
        let e : q ≡ 0 = omega arith in
        rw e (blanks_last k)

-- six cells and a digit
pub column_cells : (n a b c d e f : ℕ) → n ≤ most_in_columns → a ≡ n / 10 → b ≡ a / 10 → c ≡ b / 10 → d ≡ c / 10 → e ≡ d / 10 → f ≡ e / 10
    → (cell f ∷ cell e ∷ cell d ∷ cell c ∷ cell b ∷ cell a ∷ digit (n % 10) ∷ []) ≡ column n
unfolding column just lead
column_cells n a b c d e f h ea eb ec ed ee ef =
    let none : f / 10 ≡ 0 = omega arith in
    let p : just 7 n ≡ lead 6 a ++ (digit (n % 10) ∷ []) = rw ea (just_step 6 n (omega arith)) in
    let pa : lead 6 a ≡ lead 5 b ++ (cell a ∷ []) = rw eb (lead_step 5 a (omega arith)) in
    let pb : lead 5 b ≡ lead 4 c ++ (cell b ∷ []) = rw ec (lead_step 4 b (omega arith)) in
    let pc : lead 4 c ≡ lead 3 d ++ (cell c ∷ []) = rw ed (lead_step 3 c (omega arith)) in
    let pd : lead 3 d ≡ lead 2 e ++ (cell d ∷ []) = rw ee (lead_step 2 d (omega arith)) in
    let pe : lead 2 e ≡ lead 1 f ++ (cell e ∷ []) = rw ef (lead_step 1 e (omega arith)) in
    let pf : lead 1 f ≡ cell f ∷ [] = lead_step 0 f (omega arith) ∙ rw none refl in
    sym (p ∙ rw (pa, pb, pc, pd, pe, pf) refl)
