-- Laws of captures. Assumes nothing.
use Prim.Native.Nat.{ℕ, zero, suc, ◌+◌, ◌-◌, ◌<◌, ◌≤◌}
use native.Mathlib.Omega.{arith}
use mathlib.Core.Bool.{Bool, true, false, not, ◌&&◌}
use mathlib.Core.List.{List}
use mathlib.Core.Path.{◌≡◌, refl}
use lib.Dec.{ltb, eqb}
use lib.ListN.{length, get_or}
use Rattle.std.specs.List.{list_all, range_with_len}
use Rattle.std.proofs.Math.Bool.{and-false}
use borrow.Author.Tests.{lt-ltb, ltb-true, ltb-false}
use Rattle.basics.proofs.Tests.{either_way}
use Rattle.lua51_instruction.specs.Proto.{Proto, size, word}
use Rattle.cfg.specs.Graph.{leader}
use Rattle.lua51_lifter.specs.Check.{all_captures}
use Rattle.lua51_reach.specs.Targets.{Marked}
use Rattle.lua51_reach.proofs.Marking.{mark_says}
use Rattle.lua51_results.specs.Captures.{is_capture, captures_from}

-- ------------------------------------------------------------ one word after another

module _ (words marks : List ℕ) where
  -- word `at` can be a capture, and is no leader
  abbrev pub can_capture : ℕ → Bool
  can_capture at = is_capture (get_or words at 0) && not (eqb (get_or marks at 0) 1)

  -- where there are as many words, each is judged for itself
  pub captures_all : (n at : ℕ) → n ≤ length words - at → list_all can_capture (range_with_len at n) ≡ captures_from words marks at n
  unfolding captures_from
  captures_all zero at h = refl
  captures_all (suc n) at h = rw (lt-ltb at (length words) (omega arith), captures_all n (at + 1) (omega arith))

  -- and else one is missing
  pub captures_few : (n at : ℕ) → length words - at < n → captures_from words marks at n ≡ false
  unfolding captures_from
  captures_few zero at h = absurd (omega arith)
  captures_few (suc n) at h = either_way (ltb at (length words))
      (λ l. rw (l, captures_few n (at + 1) (omega (arith, ltb-true at (length words) l)), and-false (can_capture at)))
      (λ l. rw l)

-- ------------------------------------------------------------ by the marks of a function's leaders

module _ (p : Proto) (marks : List ℕ) (m : Marked (leader p) (size p) marks) (end : leader p (size p) ≡ true) where
  by_leaders : (n i : ℕ) → i < size p → captures_from p.words marks (i + 1) n ≡ all_captures p i n
  unfolding captures_from all_captures
  by_leaders zero i lt = refl
  by_leaders (suc n) i lt = either_way (ltb (i + 1) (size p))
      (λ h. rw (h, mark_says (leader p) (size p) marks m (i + 1) (omega arith), by_leaders n (i + 1) (ltb-true (i + 1) (size p) h)))
      (λ h. let z : i + 1 ≡ size p = omega (arith, ltb-false (i + 1) (size p) h) in
      rw (h, z, end, and-false (is_capture (word p (size p)))))

  pub captures_are : (words : List ℕ) → p.words ≡ words → (n i : ℕ) → i < size p → captures_from words marks (i + 1) n ≡ all_captures p i n
  captures_are words e n i lt = rw (← e) (by_leaders n i lt)
