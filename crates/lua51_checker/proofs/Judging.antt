-- Laws of the order of verdicts, and of their numbers and places. Assumes nothing.
use Prim.Native.Nat.{ℕ, zero, suc, ◌+◌, ◌-◌, ◌≤◌, ◌<◌}
use native.Mathlib.Omega.{arith}
use mathlib.Core.Bool.{Bool, true, false, not, ◌&&◌}
use mathlib.Core.Path.{◌≡◌, refl, sym, subst, ◌∙◌}
use Rattle.lua51_instruction.specs.Word.{JMP}
use Rattle.lua51_instruction.specs.Proto.{Proto, size, is, flow_at}
use Rattle.lua51_lifter.specs.Check.{tests, head_fault, last_fault, operand_fault, lands_inside, word_verdict, use_verdict, line_verdict, check, Verdict, fine, wrong, refuse_if, ◌else◌, first_refusal}
use Rattle.lua51_lifter.specs.Verdict.{Found}
use Rattle.lua51_uses.specs.Judgement.{check_words}
use mathlib.Core.List.{List}
use lib.ListN.{get_or}
use Rattle.lua51_function.specs.Function.{Stands}
use Rattle.lua51_instruction.specs.Instruction.{Decodes}
use Rattle.lua51_instruction.specs.declared.instruction.Instruction.{Instruction}
use Rattle.lua51_operands.specs.Describes.{Describes}
use Rattle.lua51_operands.specs.declared.subject.Subject.{Subject}

-- ------------------------------------------------------------ 7 to 11, then 12 to 14, then 15

else_else : (u v w x : Verdict) → u else v else w else x ≡ (u else v else w) else x
else_else fine fine w x = refl
else_else fine (wrong n q) w x = refl
else_else (wrong n q) v w x = refl

module _ (p : Proto) where
  abbrev of_uses : Verdict
  of_uses = first_refusal (use_verdict p) 0 (size p)

  abbrev of_lines : Verdict
  of_lines = first_refusal (line_verdict p) 0 (size p)

  check_splits : check p ≡ check_words p else of_uses else of_lines
  unfolding check
  check_splits =
      else_else (refuse_if (head_fault p) 7 0) (refuse_if (last_fault p) 8 (size p - 1)) (first_refusal (word_verdict p) 0 (size p)) (of_uses else of_lines)

  -- what 7 to 11 find is found; where they find nothing, what 12 to 14 find; and else what is found of the lines
  pub words_decide : (k i : ℕ) → wrong k i ≡ check_words p → wrong k i ≡ check p
  words_decide k i e = sym (check_splits ∙ rw (← e))

  module _ (e : fine ≡ check_words p) where
    behind_words : check p ≡ of_uses else of_lines
    behind_words = check_splits ∙ rw (← e)

    pub uses_decide : (k i : ℕ) → wrong k i ≡ of_uses → wrong k i ≡ check p
    uses_decide k i f = sym (behind_words ∙ rw (← f))

    pub lines_decide : (v : Verdict) → fine ≡ of_uses → v ≡ of_lines → v ≡ check p
    lines_decide v f l = l ∙ sym (behind_words ∙ rw (← f))

-- ------------------------------------------------------------ 9

-- what is found of an operand by the parts that are read of a function, whatever words it has, is found of the words that it has
pub outside_is : (p : Proto) (s : Subject) (i : ℕ) {x : Instruction} {b : Bool}
    → ((p : Proto) (i : ℕ) (ws us : List ℕ) → Stands p s.head ws s.kinds.now s.nested.now us → Decodes (get_or ws i 0) x → b ≡ operand_fault p i)
    → Describes p s → Decodes (get_or s.words.now i 0) x → b ≡ operand_fault p i
outside_is p s i says d w = says p i s.words.now s.nups.now d w

-- ------------------------------------------------------------ numbers and places

module _ (least most n : ℕ) where
  found_else : (v w : Verdict) → Found least most n v → Found least most n w → Found least most n (v else w)
  found_else fine w h g = g
  found_else (wrong k i) w h g = h

  found_fault : (fault : Bool) (k i : ℕ) → least ≤ k → k ≤ most → i ≤ n - 1 → Found least most n (refuse_if fault k i)
  found_fault true k i a b c = (a, b, c)
  found_fault false k i a b c = tt

  found_first : (f : ℕ → Verdict) → ((i : ℕ) → i < n → Found least most n (f i)) → (from count : ℕ) → from + count ≤ n
      → Found least most n (first_refusal f from count)
  unfolding first_refusal
  found_first f g from zero h = tt
  found_first f g from (suc count) h = found_else (f from) (first_refusal f (from + 1) count) (g from (omega arith)) (found_first f g (from + 1) count (omega arith))

  -- within wider bounds
  pub found_more : (less more : ℕ) (v : Verdict) → less ≤ least → most ≤ more → Found least most n v → Found less more n v
  found_more less more fine a b h = tt
  found_more less more (wrong k i) a b h = (omega arith, omega arith, h.2)

module _ (p : Proto) where
  fault : (b : Bool) (k i : ℕ) → 7 ≤ k → k ≤ 11 → i ≤ size p - 1 → Found 7 11 (size p) (refuse_if b k i)
  fault = found_fault 7 11 (size p)

  of_word : (i : ℕ) → i < size p → Found 7 11 (size p) (word_verdict p i)
  unfolding word_verdict
  of_word i h =
      found_else 7 11 (size p) (refuse_if (operand_fault p i) 9 i) _ (fault (operand_fault p i) 9 i (omega arith) (omega arith) (omega arith))
      (found_else 7 11 (size p) (refuse_if (not (lands_inside p i (flow_at p i))) 10 i) _ (fault (not (lands_inside p i (flow_at p i))) 10 i (omega arith) (omega arith) (omega arith))
      (fault (tests (flow_at p i) && not (is p (i + 1) JMP)) 11 i (omega arith) (omega arith) (omega arith)))

  -- 7 to 11 are at one of the words, or at 0
  pub found_words : Found 7 11 (size p) (check_words p)
  found_words =
      found_else 7 11 (size p) (refuse_if (head_fault p) 7 0) _ (fault (head_fault p) 7 0 (omega arith) (omega arith) (omega arith))
      (found_else 7 11 (size p) (refuse_if (last_fault p) 8 (size p - 1)) _ (fault (last_fault p) 8 (size p - 1) (omega arith) (omega arith) (omega arith))
      (found_first 7 11 (size p) (word_verdict p) of_word 0 (size p) (omega arith)))

  -- and so what they find is within the bounds of a whole judgement
  pub found_refused : (k i : ℕ) → wrong k i ≡ check_words p → Found 7 15 (size p) (wrong k i)
  found_refused k i e = found_more 7 11 (size p) 7 15 (wrong k i) (omega arith) (omega arith) (subst (Found 7 11 (size p)) (sym e) found_words)
