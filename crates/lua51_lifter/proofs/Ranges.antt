-- Those of a range that pass a test, by their numbers; and the range that holds a word. Assumes nothing.
use mathlib.Core.Bool.{Bool, true, false, cond}
use Prim.Native.Nat.{ℕ, zero, suc, ◌+◌, ◌-◌, ◌≤◌, ◌<◌}
use native.Mathlib.Omega.{arith}
use native.Mathlib.Numerals.{add-one}
use mathlib.Core.Path.{◌≡◌}
use lib.Dec.{ltb, eqb}
use borrow.Author.Tests.{ltb-true, ltb-false, eqb-true, eqb-false}
use Rattle.basics.specs.Range.{sum}
use Rattle.basics.proofs.Range.{sum_split, sum_at}
use Rattle.basics.proofs.Tables.{sum_more, sum_none}
use Rattle.basics.proofs.Tests.{either_way, clash}
use Rattle.lua51_instruction.specs.Proto.{Proto, size}
use Rattle.cfg.specs.Graph.{leader, past, block_of}
use Rattle.cfg.proofs.Leaders.{Found, past_found, past_end, first_leads}
use Rattle.lua51_lifter.specs.WordBehind.{own_block}

-- how many below k pass a test
abbrev passing : (ℕ → Bool) → ℕ → ℕ
passing f k = sum (λ j. cond (f j) 1 0) 0 k

module _ (f : ℕ → Bool) where
  passing_more : (k : ℕ) → passing f (k + 1) ≡ passing f k + cond (f k) 1 0
  passing_more = sum_more (λ j. cond (f j) 1 0)

  passing_none : (t d : ℕ) → ((m : ℕ) → t ≤ m → m < t + d → f m ≡ false) → passing f (t + d) ≡ passing f t
  passing_none t d h =
      let none = sum_none (λ j. cond (f j) 1 0) (0 + t) d (λ i lt. rw (h (0 + t + i) (omega arith) (omega arith))) in
      omega (arith, sum_split (λ j. cond (f j) 1 0) 0 t d)

  -- each number below their count is that of one of them
  pub passing_number : (k b : ℕ) → b < passing f k → (j : ℕ) × (j < k) × (f j ≡ true) × (passing f j ≡ b)
  passing_number zero b lt = absurd (unfold sum in omega arith)
  passing_number (suc k) b lt = either_way (ltb b (passing f k))
      (λ h. let (j, l, t, e) = passing_number k b (ltb-true b (passing f k) h) in (j, omega arith, t, e))
      (λ h. either_way (f k)
      (λ t. (k, omega arith, t, omega (arith, ltb-false b (passing f k) h, rw (add-one, t) at (passing_more k))))
      (λ t. absurd (omega (arith, ltb-false b (passing f k) h, rw (add-one, t) at (passing_more k)))))

  -- one below k passes, or none does
  pub some_passing : {Z : Type 0} (k : ℕ) → ((j : ℕ) → j < k → f j ≡ true → Z) → (((j : ℕ) → j < k → f j ≡ true → ⊥) → Z) → Z
  some_passing k some none = either_way (ltb 0 (passing f k))
      (λ h. let (j, l, t, _) = passing_number k 0 (ltb-true 0 (passing f k) h) in some j l t)
      (λ h. none (λ j l t. omega (arith, ltb-false 0 (passing f k) h, rw t at (sum_at (λ j. cond (f j) 1 0) k j l))))

module _ (p : Proto) (end : leader p (size p) ≡ true) where
  -- a range ends within the words
  pub range_within : (j : ℕ) → j ≤ size p → j + (past p j - j) ≤ size p
  range_within j le = either_way (eqb j (size p))
      (λ e. let n = eqb-true j (size p) e in let none : past p j ≡ j = rw n (past_end p) in omega arith)
      (λ e. let f = past_found p end j (omega (arith, eqb-false j (size p) e)) in omega (arith, f.from, f.within))

  -- the words of a range have its block for their own
  pub own_number : (t i : ℕ) → t ≤ size p → leader p t ≡ true → t ≤ i → i < past p t
      → (i < size p) × (own_block p i ≡ block_of p t)
  unfolding block_of
  own_number t i le l from below = either_way (eqb t (size p))
      (λ q. absurd (omega (arith, past_end p, rw (eqb-true t (size p) q) at below, rw (eqb-true t (size p) q) at from)))
      (λ q. let range : Found p (t + 1) (past p t) = past_found p end t (omega (arith, eqb-false t (size p) q)) in
      let e : t + 1 + (i - t) ≡ i + 1 = omega arith in
      let alone = passing_none (leader p) (t + 1) (i - t) (λ m a b. range.none m a (omega arith)) in
      (omega (arith, range.within), omega (arith, rw e at alone, rw l at (passing_more (leader p) t))))

  -- each word stands in a range
  pub holding : (i : ℕ) → i < size p → (t : ℕ) × (leader p t ≡ true) × (t ≤ i) × (i < past p t)
  holding zero lt = (0, first_leads p, omega arith, omega (arith, (past_found p end 0 lt).from))
  holding (suc i) lt = either_way (leader p (suc i))
      (λ l. (suc i, l, omega arith, omega (arith, (past_found p end (suc i) lt).from)))
      (λ l. let (t, g, a, b) = holding i (omega arith) in
      either_way (eqb (suc i) (past p t))
      (λ e. clash (rw (eqb-true (suc i) (past p t) e) (past_found p end t (omega arith)).leads) l)
      (λ e. (t, g, omega arith, omega (arith, eqb-false (suc i) (past p t) e))))
