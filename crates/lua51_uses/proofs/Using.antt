-- Laws of the verdict on a word among the others, by which the code judges 12 to 14. Assumes nothing.
use Prim.Native.Nat.{ℕ, ◌-◌, ◌<◌}
use native.Mathlib.Omega.{arith}
use mathlib.Core.Bool.{true, false, not}
use mathlib.Core.List.{List}
use mathlib.Core.Path.{◌≡◌}
use lib.Dec.{eqb}
use borrow.Author.Tests.{eqb-true, eqb-false}
use Rattle.basics.proofs.Tests.{or_left, or_right, not_not}
use Rattle.cfg.proofs.Leaders.{end_leads}
use Rattle.lua51_instruction.specs.Word.{RETURN, number_of}
use Rattle.lua51_instruction.specs.Proto.{Proto, size, flow_at, opcode}
use Rattle.cfg.specs.Graph.{leader}
use Rattle.cfg.specs.Arrays.{mark}
use Rattle.basics.specs.Range.{table}
use Rattle.basics.proofs.Tables.{table_at}
use Rattle.lua51_reach.specs.Targets.{Marked}
use Rattle.lua51_lifter.specs.Check.{lands_inside, last_fault, fine, Verdict, first_refusal, word_verdict, refuse_if, ◌else◌, head_fault, operand_fault}
use Rattle.lua51_lifter.proofs.Verdicts.{else_first, else_then, refused_not, first_all}
use Rattle.lua51_uses.specs.Judgement.{check_words}

-- ------------------------------------------------------------ the verdict on a word among the others

-- the last word being RETURN, a range starts behind it
pub last_leads : (p : Proto) → last_fault p ≡ false → leader p (size p) ≡ true
unfolding last_fault
last_leads p h =
    end_leads p (omega (arith, eqb-false (size p) 0 (or_left (eqb (size p) 0) _ h)))
    (eqb-true (opcode p (size p - 1)) (number_of RETURN) (not_not _ (or_right (eqb (size p) 0) _ h)))

-- ------------------------------------------------------------ the marks of a function's leaders

pub leaders_marked : (p : Proto) (marks : List ℕ) (n : ℕ) → size p < n → marks ≡ table (mark p) n → Marked (leader p) (size p) marks
leaders_marked p marks n below h j l = rw h (table_at (mark p) n j (omega arith))

-- ------------------------------------------------------------ what 7 to 11 leave

module _ (p : Proto) (ok : check_words p ≡ fine) where
  abbrev of_words : Verdict
  of_words = first_refusal (word_verdict p) 0 (size p)

  behind_head : refuse_if (last_fault p) 8 (size p - 1) else of_words ≡ fine
  behind_head = else_then (refuse_if (head_fault p) 7 0) (refuse_if (last_fault p) 8 (size p - 1) else of_words) ok

  pub ends_right : last_fault p ≡ false
  ends_right = refused_not (last_fault p) 8 (size p - 1) (else_first (refuse_if (last_fault p) 8 (size p - 1)) of_words behind_head)

  pub all_land : (k : ℕ) → k < size p → lands_inside p k (flow_at p k) ≡ true
  unfolding word_verdict
  all_land k h =
      not_not _ (refused_not (not (lands_inside p k (flow_at p k))) 10 k
      (else_first (refuse_if (not (lands_inside p k (flow_at p k))) 10 k) _
      (else_then (refuse_if (operand_fault p k) 9 k) _
      (first_all (word_verdict p) (size p) (else_then (refuse_if (last_fault p) 8 (size p - 1)) of_words behind_head) k h))))
