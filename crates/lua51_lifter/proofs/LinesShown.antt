-- The two numbers at the end of a B line are the lowest and the highest line of the block's words (document 02, 2). Assumes
-- nothing.
use Prim.Native.Nat.{ℕ, zero, suc, ◌+◌, ◌-◌, ◌≤◌, ◌<◌, min, max}
use native.Mathlib.Omega.{arith}
use mathlib.Core.Path.{◌≡◌, refl}
use mathlib.Core.Logic.{◌⊎◌, inl, inr}
use mathlib.Core.List.{[], foldl}
use lib.Dec.{eqb, leb, ltb}
use lib.ListN.{length, get_or-eq_default}
use borrow.Author.Tests.{eqb-true, eqb-false, leb-true, leb-false, ltb-true, ltb-false}
use Rattle.basics.specs.Range.{over, only}
use Rattle.basics.proofs.Range.{over_none}
use Rattle.basics.proofs.Tests.{either_way}
use Rattle.lua51_instruction.specs.Proto.{Proto, line_at}
use Rattle.lua51_lifter.specs.Blocks.{Block, kind_code, no_block, code_block, entry_block, between_block, Named, naming, graph, block_at}
use Rattle.lua51_lifter.specs.SourceLines.{lines_of, lowest, highest}
use Rattle.lua51_lifter.specs.Listing.{source_lines}
use Rattle.lua51_lifter.specs.Check.{check, fine, most_line}
use Rattle.lua51_lifter.specs.LinesShown.{Lined, ShowsLines}
use Rattle.lua51_lifter.proofs.Accepted.{line_few, end_leader}
use Rattle.lua51_lifter.proofs.Blocks.{Stands, stands}
use Rattle.lua51_lifter.proofs.Blocks.Stands.{is_code, is_entry, is_between, is_none}
use Rattle.lua51_lifter.proofs.Ranges.{own_number}

-- ------------------------------------------------------------ the lowest, and the highest, of the numbers of a range

-- f chooses one of two numbers, which stands to both as R says
module _ (f : ℕ → ℕ → ℕ) (R : ℕ → ℕ → Type 0) (one : (x y : ℕ) → (f x y ≡ x) ⊎ (f x y ≡ y))
    (same : (x : ℕ) → R x x) (further : (x y z : ℕ) → R x y → R y z → R x z)
    (first_bound : (x y : ℕ) → R (f x y) x) (second_bound : (x y : ℕ) → R (f x y) y) (g : ℕ → ℕ) where
  -- the choice of x and of what g gives at the k numbers from `from` on
  abbrev chosen : ℕ → ℕ → ℕ → ℕ
  chosen x from k = foldl f x (over (λ i. only (g i)) from k)

  -- x is what g gives at one of the numbers from `from` to before `to`
  abbrev Given : ℕ → ℕ → ℕ → Type 0
  Given from to x = (i : ℕ) × (from ≤ i) × (i < to) × (g i ≡ x)

  bound : (k x from : ℕ) → R (chosen x from k) x
  unfolding over
  bound zero x from = same x
  bound (suc k) x from = further _ _ _ (bound k (f x (g from)) (from + 1)) (first_bound x (g from))

  bound_each : (k x from i : ℕ) → from ≤ i → i < from + k → R (chosen x from k) (g i)
  unfolding over
  bound_each zero x from i a b = absurd (omega arith)
  bound_each (suc k) x from i a b = either_way (eqb i from)
      (λ e. rw (eqb-true i from e) (further _ _ _ (bound k (f x (g from)) (from + 1)) (second_bound x (g from))))
      (λ e. bound_each k (f x (g from)) (from + 1) i (omega (arith, eqb-false i from e)) (omega arith))

  -- what is chosen is one of them
  given : (k x from to : ℕ) → from + k ≤ to → (a : ℕ) → a ≤ from → Given a to x → Given a to (chosen x from k)
  unfolding over
  given zero x from to le a h at = at
  given (suc k) x from to le a h at = given k (f x (g from)) (from + 1) to (omega arith) a (omega arith) (go (one x (g from)))
    where
      go : (f x (g from) ≡ x) ⊎ (f x (g from) ≡ g from) → Given a to (f x (g from))
      go (inl e) = rw e at
      go (inr e) = rw e (from, h, omega arith, refl)

  -- of a range that is not empty, by its first number and the others: what is chosen is one of its numbers and stands to each
  chosen_stands : (from to : ℕ) → from < to
      → Given from to (chosen (g from) (from + 1) (to - from - 1))
      × ((i : ℕ) → from ≤ i → i < to → R (chosen (g from) (from + 1) (to - from - 1)) (g i))
  chosen_stands from to lt = (
    given (to - from - 1) (g from) (from + 1) to (omega arith) from (omega arith) (from, omega arith, lt, refl),
    λ i a b. either_way (eqb i from)
        (λ e. rw (eqb-true i from e) (bound (to - from - 1) (g from) (from + 1)))
        (λ e. bound_each (to - from - 1) (g from) (from + 1) i (omega (arith, eqb-false i from e)) (omega arith)),
  )

min_one : (x y : ℕ) → (min x y ≡ x) ⊎ (min x y ≡ y)
min_one x y = either_way (leb x y) (λ h. inl (omega (arith, leb-true x y h))) (λ h. inr (omega (arith, leb-false x y h)))

max_one : (x y : ℕ) → (max x y ≡ x) ⊎ (max x y ≡ y)
max_one x y = either_way (leb x y) (λ h. inr (omega (arith, leb-true x y h))) (λ h. inl (omega (arith, leb-false x y h)))

module _ (p : Proto) where
  -- ------------------------------------------------------------ the lines of the words from `first` to before `past`

  module _ (first past : ℕ) where
    abbrev low : ℕ
    low = lowest (lines_of p first past)

    abbrev high : ℕ
    high = highest (lines_of p first past)

    -- x is one of them
    abbrev LineIn : ℕ → Type 0
    LineIn x = (i : ℕ) × (first ≤ i) × (i < past) × (line_at p i ≡ x)

    pub lines_none : past ≤ first → lines_of p first past ≡ []
    unfolding lines_of
    lines_none le = over_none (λ i. only (line_at p i)) first (past - first) (λ i lt. absurd (omega arith))

    no_words : past ≤ first → (low ≡ 0) × (high ≡ 0)
    unfolding lowest highest
    no_words le = (rw (lines_none le), rw (lines_none le))

    module _ (some : first < past) where
      words : past - first ≡ suc (past - first - 1)
      words = omega arith

      low_stands : LineIn low × ((i : ℕ) → first ≤ i → i < past → low ≤ line_at p i)
      unfolding lines_of lowest over
      low_stands =
          rw words
          (chosen_stands min (λ x y. x ≤ y) min_one (λ x. omega arith) (λ x y z h k. omega arith) (λ x y. omega arith) (λ x y. omega arith) (line_at p) first past some)

      high_stands : LineIn high × ((i : ℕ) → first ≤ i → i < past → line_at p i ≤ high)
      unfolding lines_of highest over
      high_stands =
          rw words
          (chosen_stands max (λ x y. y ≤ x) max_one (λ x. omega arith) (λ x y z h k. omega arith) (λ x y. omega arith) (λ x y. omega arith) (line_at p) first past some)

    -- where each of them is at most k, so are both
    at_most : (k : ℕ) → ((i : ℕ) → first ≤ i → i < past → line_at p i ≤ k) → (low ≤ k) × (high ≤ k)
    at_most k each = either_way (ltb first past)
        (λ h. let some = ltb-true first past h in (bounded (low_stands some).0, bounded (high_stands some).0))
        (λ h. let (l, m) = no_words (ltb-false first past h) in (omega (arith, l), omega (arith, m)))
      where
        bounded : {x : ℕ} → LineIn x → x ≤ k
        bounded (i, a, b, e) = rw (← e) (each i a b)

  -- ------------------------------------------------------------ blocks

  -- the line of a word of a function without lines
  no_line : length p.lines ≡ 0 → (i : ℕ) → line_at p i ≡ 0
  no_line h i = get_or-eq_default p.lines 0 (omega arith)

  -- a block of words with few lines, which is empty unless it is a code block
  lined : (b : Block Named) → ((i : ℕ) → b.first ≤ i → i < b.past → line_at p i ≤ most_line)
      → ((b.kind ≡ kind_code → ⊥) → b.past ≤ b.first) → Lined p b
  unfolding source_lines
  lined b few empty = record {
    low = low b.first b.past;
    high = high b.first b.past;
    shown = λ n. refl;
    words = λ some.
        let l = low_stands b.first b.past some in
        let h = high_stands b.first b.past some in
        record { lowest = l.0; highest = h.0; within = λ i x y. (l.1 i x y, h.1 i x y) };
    empty = no_words b.first b.past;
    others = λ other. no_words b.first b.past (empty other);
    without = λ none.
        let (l, h) = at_most b.first b.past 0 (λ i x y. omega (arith, no_line none i)) in
        (omega (arith, l), omega (arith, h));
    few = at_most b.first b.past most_line few;
  }

  module _ (ok : check p ≡ fine) where
    all_lined : (b : ℕ) → Stands naming p no_block b → Lined p (block_at p b)
    unfolding graph code_block entry_block between_block
    all_lined b (is_code t le l e at) =
        rw at (lined (code_block naming p t) (λ i x y. line_few p ok i (own_number p (end_leader p ok) t i le l x y).0) (λ other. absurd (other refl)))
    all_lined b (is_entry e at) = rw at (lined (entry_block naming p) (λ i x y. absurd (omega arith)) (λ other. omega arith))
    all_lined b (is_between i lt d e at) = rw at (lined (between_block naming p i) (λ i x y. absurd (omega arith)) (λ other. omega arith))
    all_lined b (is_none at) = rw at (lined no_block (λ i x y. absurd (omega arith)) (λ other. absurd (other refl)))

-- every block of every accepted function
pub shows_lines : ShowsLines
shows_lines p ok b = all_lined p ok b (stands naming p no_block b)
