-- Where a word leads beside the next one, as the code has it, and marks of words (document 01, 'Refusals from the input').
use Rattle.std.specs.Prelude.{ℕ, ◌+◌, ◌≤◌, Option, Some, None, Bool, cond, ◌&&◌, List, ◌≡◌, ltb, eqb, get_or, set}
use Rattle.lua51_instruction.specs.Word.{Flow, straight, skip, jump, test, test_set, loop_entry, numeric_loop, generic_loop, exit}
use Rattle.lua51_instruction.specs.Proto.{Proto, size, arg_c, target_at}
use Rattle.cfg.specs.Arrays.{bit}
use Rattle.lua51_lifter.specs.Check.{reached}
use Rattle.lua51_reach.specs.declared.reach.Reach.{Reach}
use Rattle.lua51_reach.specs.declared.reach.Reach.TheVariants.{Nowhere, To, Outside}

-- ------------------------------------------------------------ targets and skips

-- the 'skip' of word i of n words: the second word after
abbrev pub skip_of : ℕ → ℕ → Reach
skip_of i n = cond (ltb (i + 2) n) (To (i + 2)) Outside

-- a jump leads to its target
abbrev pub reach_by : Option ℕ → Reach
reach_by (Some t) = To t
reach_by None = Outside

-- the 'Target or skip' of word i
unfoldable pub reach_of : Proto → ℕ → Flow → Reach
reach_of p i straight = Nowhere
reach_of p i skip = cond (eqb (arg_c p i) 0) Nowhere (skip_of i (size p))
reach_of p i jump = reach_by (target_at p i)
reach_of p i test = skip_of i (size p)
reach_of p i test_set = skip_of i (size p)
reach_of p i loop_entry = reach_by (target_at p i)
reach_of p i numeric_loop = reach_by (target_at p i)
reach_of p i generic_loop = skip_of i (size p)
reach_of p i exit = Nowhere

-- ------------------------------------------------------------ marks

-- the marks of 0 to n: 1 where f holds, and else 0
abbrev pub Marked : (ℕ → Bool) → ℕ → List ℕ → Type 0
Marked f n marks = (j : ℕ) → j ≤ n → get_or marks j 0 ≡ cond (f j) 1 0

-- the mark of word j: 1 where it is a word of the function that 'is a jump target or skip of any word'
abbrev pub reached_mark : Proto → ℕ → ℕ
reached_mark p j = bit (ltb j (size p) && reached p j)

-- marks with one more, where a word leads to another
abbrev pub marked_by : Reach → List ℕ → List ℕ
marked_by Nowhere marks = marks
marked_by (To j) marks = set marks j 1
marked_by Outside marks = marks
