-- Laws of verdicts: what follows where nothing is wrong. Assumes nothing.
use mathlib.Core.Bool.{Bool, true, false, not, ◌&&◌, ◌||◌}
use Prim.Native.Nat.{ℕ, zero, suc, ◌+◌, ◌<◌, ◌≤◌, ◌-◌}
use native.Mathlib.Omega.{arith}
use mathlib.Core.Path.{◌≡◌, refl, subst}
use lib.Dec.{ltb}
use Rattle.lua51_lifter.specs.Check.{refuse_if, Verdict, first_refusal, fine, ◌else◌, wrong, check, word_verdict}
use Rattle.lua51_lifter.specs.Check.{use_verdict, operand_fault, head_fault, unused_results, last_fault}
use Rattle.lua51_lifter.specs.Check.{missing_results, lands_inside, tests, all_captures, reached, most_line, line_verdict}
use Rattle.lua51_instruction.specs.Proto.{Proto, size, flow_at, is, captures_of, line_at}
use Rattle.lua51_instruction.specs.Word.{JMP, TESTSET, CLOSURE}

pub else_first : (v w : Verdict) → v else w ≡ fine → v ≡ fine
else_first fine w h = refl
else_first (wrong n p) w h = h

pub else_then : (v w : Verdict) → v else w ≡ fine → w ≡ fine
else_then fine w h = h
else_then (wrong n p) w h = cc

pub refused_not : (b : Bool) (n p : ℕ) → refuse_if b n p ≡ fine → b ≡ false
refused_not true n p h = cc
refused_not false n p h = refl

pub first_fine : (f : ℕ → Verdict) (from k : ℕ) → first_refusal f from k ≡ fine → (i : ℕ) → i < k → f (from + i) ≡ fine
unfolding first_refusal
first_fine f from zero h i lt = absurd (omega arith)
first_fine f from (suc k) h zero lt = subst (λ (x : ℕ). f x ≡ fine) (omega arith) (else_first (f from) (first_refusal f (from + 1) k) h)
first_fine f from (suc k) h (suc i) lt = subst (λ (x : ℕ). f x ≡ fine) (omega arith) (first_fine f (from + 1) k (else_then (f from) (first_refusal f (from + 1) k) h) i (omega arith))

pub first_all : (f : ℕ → Verdict) (k : ℕ) → first_refusal f 0 k ≡ fine → (i : ℕ) → i < k → f i ≡ fine
first_all f k h i lt = let e : 0 + i ≡ i = omega arith in rw e at (first_fine f 0 k h i lt)

-- one turn of a loop over n words, or lines of a table, and its end
module _ (f : ℕ → Verdict) (n i : ℕ) where
  pub first_turn : i < n → first_refusal f i (n - i) ≡ f i else first_refusal f (i + 1) (n - (i + 1))
  unfolding first_refusal
  first_turn h = let e : n - i ≡ suc (n - (i + 1)) = omega arith in rw e

  pub first_end : n ≤ i → first_refusal f i (n - i) ≡ fine
  unfolding first_refusal
  first_end h = let e : n - i ≡ 0 = omega arith in rw e

-- ------------------------------------------------------------ the numbers of refusals

-- no refusal, or one from k on
pub data From (k : ℕ) : Verdict → Type 0 where
  not_one : From k fine
  from_on : {n p : ℕ} → k ≤ n → From k (wrong n p)

pub else_from : {k : ℕ} {v w : Verdict} → From k v → From k w → From k (v else w)
else_from not_one g = g
else_from (from_on l) g = from_on l

pub refuse_from : {k : ℕ} (fault : Bool) (n p : ℕ) → k ≤ n → From k (refuse_if fault n p)
refuse_from true n p h = from_on h
refuse_from false n p h = not_one

pub first_from : {k : ℕ} (f : ℕ → Verdict) → ((i : ℕ) → From k (f i)) → (from count : ℕ)
    → From k (first_refusal f from count)
unfolding first_refusal
first_from f h from zero = not_one
first_from f h from (suc count) = else_from (h from) (first_from f h (from + 1) count)

module _ (p : Proto) where
  word_from : (i : ℕ) → From 7 (word_verdict p i)
  unfolding word_verdict
  word_from i =
      else_from (refuse_from (operand_fault p i) 9 i (omega arith))
      (else_from (refuse_from (not (lands_inside p i (flow_at p i))) 10 i (omega arith))
      (refuse_from (tests (flow_at p i) && not (is p (i + 1) JMP)) 11 i (omega arith)))

  use_from : (i : ℕ) → From 7 (use_verdict p i)
  unfolding use_verdict
  use_from i =
      else_from (refuse_from (unused_results p i || missing_results p i) 12 i (omega arith))
      (else_from (refuse_from (is p i CLOSURE && not (all_captures p i (captures_of p i))) 13 i (omega arith))
      (refuse_from (is p i TESTSET && reached p (i + 1)) 14 i (omega arith)))

  line_from : (i : ℕ) → From 7 (line_verdict p i)
  unfolding line_verdict
  line_from i = refuse_from (ltb most_line (line_at p i)) 15 i (omega arith)

  -- a function is refused by 7 or a later one
  pub check_from : From 7 (check p)
  unfolding check
  check_from =
      else_from (refuse_from (head_fault p) 7 0 (omega arith))
      (else_from (refuse_from (last_fault p) 8 (size p - 1) (omega arith))
      (else_from (first_from (word_verdict p) word_from 0 (size p))
      (else_from (first_from (use_verdict p) use_from 0 (size p)) (first_from (line_verdict p) line_from 0 (size p)))))
