-- What holds at each word of an accepted function: the refusals that did not fall. Assumes nothing.
use mathlib.Core.Bool.{true, false, not, ◌&&◌, ◌||◌}
use Prim.Native.Nat.{ℕ, ◌+◌, ◌-◌, ◌≤◌, ◌<◌}
use native.Mathlib.Omega.{arith}
use mathlib.Core.Path.{◌≡◌, ap, ◌∙◌}
use lib.Dec.{leb, ltb, eqb}
use borrow.Author.Tests.{ltb-true, ltb-false, leb-true, eqb-true, eqb-false, eq-eqb}
use Rattle.lua51_instruction.specs.Word.{TESTSET, RETURN, CLOSURE, UNKNOWN, Flow, row_of, number_of}
use Rattle.lua51_instruction.specs.Proto.{Proto, size, opcode, is, arg_a, flow_at, arg_b, arg_c, captures_of, line_at}
use Rattle.lua51_lifter.specs.Check.{check, fine, last_fault, refuse_if, Verdict, ◌else◌, user, first_refusal, slot}
use Rattle.lua51_lifter.specs.Check.{missing_results, operand_fault, use_verdict, operand, opener, word_verdict}
use Rattle.lua51_lifter.specs.Check.{unused_results, reached, matches, head_fault, all_captures, lands_inside}
use Rattle.lua51_lifter.specs.Check.{reaches, most_line, line_verdict}
use Rattle.cfg.specs.Graph.{leader}
use Rattle.lua51_lifter.proofs.Verdicts.{refused_not, else_then, first_all, else_first}
use Rattle.basics.proofs.Tests.{and_left, or_left, not_is, either_way, and_right, clash, not_not, or_right, and_not}
use Rattle.cfg.proofs.Leaders.{end_leads}
use Rattle.basics.specs.Range.{times, sum}
use Rattle.lua51_instruction.proofs.Table.{word_beyond}
use Rattle.basics.proofs.Range.{sum_at}

module _ (p : Proto) (ok : check p ≡ fine) where
  -- ------------------------------------------------------------ the verdicts

  abbrev of_words : Verdict
  of_words = first_refusal (word_verdict p) 0 (size p)

  abbrev of_uses : Verdict
  of_uses = first_refusal (use_verdict p) 0 (size p)

  abbrev of_lines : Verdict
  of_lines = first_refusal (line_verdict p) 0 (size p)

  from_last : refuse_if (last_fault p) 8 (size p - 1) else of_words else of_uses else of_lines ≡ fine
  unfolding check
  from_last = else_then (refuse_if (head_fault p) 7 0) _ ok

  from_words : of_words else of_uses else of_lines ≡ fine
  from_words = else_then (refuse_if (last_fault p) 8 (size p - 1)) _ from_last

  from_uses : of_uses else of_lines ≡ fine
  from_uses = else_then of_words _ from_words

  word_fine : (i : ℕ) → i < size p → word_verdict p i ≡ fine
  word_fine = first_all (word_verdict p) (size p) (else_first of_words _ from_words)

  use_fine : (i : ℕ) → i < size p → use_verdict p i ≡ fine
  use_fine = first_all (use_verdict p) (size p) (else_first of_uses of_lines from_uses)

  line_fine : (i : ℕ) → i < size p → line_verdict p i ≡ fine
  line_fine = first_all (line_verdict p) (size p) (else_then of_uses of_lines from_uses)

  -- ------------------------------------------------------------ 7 and 8

  head_right : head_fault p ≡ false
  unfolding check
  head_right = refused_not (head_fault p) 7 0 (else_first (refuse_if (head_fault p) 7 0) _ ok)

  pub stack_few : p.stack ≤ 250
  unfolding head_fault
  stack_few = ltb-false 250 p.stack (or_left _ _ (or_left _ _ (or_left _ _ (or_left _ _ head_right))))

  last_right : last_fault p ≡ false
  last_right = refused_not (last_fault p) 8 (size p - 1) (else_first (refuse_if (last_fault p) 8 (size p - 1)) _ from_last)

  pub some_words : 0 < size p
  unfolding last_fault
  some_words = omega (arith, eqb-false (size p) 0 (or_left (eqb (size p) 0) _ last_right))

  pub last_return : opcode p (size p - 1) ≡ number_of RETURN
  unfolding last_fault
  last_return = eqb-true (opcode p (size p - 1)) (number_of RETURN) (not_not _ (or_right (eqb (size p) 0) _ last_right))

  -- a word that is not RETURN is not the last
  pub not_last : (i : ℕ) → i < size p → (opcode p i ≡ number_of RETURN → ⊥) → i + 1 < size p
  not_last i lt h = either_way (eqb i (size p - 1))
      (λ e. absurd (h (ap {B = ℕ} (λ (x : ℕ). opcode p x) (eqb-true i (size p - 1) e) ∙ last_return)))
      (λ e. omega (arith, eqb-false i (size p - 1) e))

  pub end_leader : leader p (size p) ≡ true
  end_leader = end_leads p some_words last_return

  -- ------------------------------------------------------------ 9 and 10

  module _ (i : ℕ) (lt : i < size p) where
    operands_right : operand_fault p i ≡ false
    unfolding word_verdict
    operands_right = refused_not (operand_fault p i) 9 i (else_first (refuse_if (operand_fault p i) 9 i) _ (word_fine i lt))

    all_inside : ltb (opcode p i) (number_of UNKNOWN) && operand p i (row_of (opcode p i)).a (arg_a p i) && operand p i (row_of (opcode p i)).b (arg_b p i) && operand p i (row_of (opcode p i)).c (arg_c p i) ≡ true
    unfolding operand_fault
    all_inside = not_not _ operands_right

    pub inside_c : operand p i (row_of (opcode p i)).c (arg_c p i) ≡ true
    inside_c = and_right (ltb (opcode p i) (number_of UNKNOWN) && operand p i (row_of (opcode p i)).a (arg_a p i) && operand p i (row_of (opcode p i)).b (arg_b p i)) _ all_inside

    inside_ab : ltb (opcode p i) (number_of UNKNOWN) && operand p i (row_of (opcode p i)).a (arg_a p i) && operand p i (row_of (opcode p i)).b (arg_b p i) ≡ true
    inside_ab = and_left _ (operand p i (row_of (opcode p i)).c (arg_c p i)) all_inside

    pub inside_b : operand p i (row_of (opcode p i)).b (arg_b p i) ≡ true
    inside_b = and_right (ltb (opcode p i) (number_of UNKNOWN) && operand p i (row_of (opcode p i)).a (arg_a p i)) _ inside_ab

    pub inside_a : operand p i (row_of (opcode p i)).a (arg_a p i) ≡ true
    inside_a = and_right (ltb (opcode p i) (number_of UNKNOWN)) _ (and_left _ (operand p i (row_of (opcode p i)).b (arg_b p i)) inside_ab)

    pub opcode_known : opcode p i < number_of UNKNOWN
    opcode_known = ltb-true (opcode p i) (number_of UNKNOWN) (and_left _ (operand p i (row_of (opcode p i)).a (arg_a p i)) (and_left _ (operand p i (row_of (opcode p i)).b (arg_b p i)) inside_ab))

    pub lands : (f : Flow) → flow_at p i ≡ f → lands_inside p i f ≡ true
    unfolding word_verdict
    lands f e = rw e at (not_not (lands_inside p i (flow_at p i)) (refused_not (not (lands_inside p i (flow_at p i))) 10 i
        (else_first (refuse_if (not (lands_inside p i (flow_at p i))) 10 i) _ (else_then (refuse_if (operand_fault p i) 9 i) _ (word_fine i lt)))))

    -- ------------------------------------------------------------ 12

    results_right : unused_results p i || missing_results p i ≡ false
    unfolding use_verdict
    results_right = refused_not _ 12 i (else_first (refuse_if (unused_results p i || missing_results p i) 12 i) _ (use_fine i lt))

    module _ (h : opener p i ≡ true) where
      opener_served : user p (i + 1) && not (leader p (i + 1)) && matches p i ≡ true
      unfolding unused_results
      opener_served = not_not _ (and_not (opener p i) _ (or_left (unused_results p i) _ results_right) h)

      pub opener_used : user p (i + 1) ≡ true
      opener_used = and_left (user p (i + 1)) _ (and_left _ (matches p i) opener_served)

      pub opener_matched : matches p i ≡ true
      opener_matched = and_right (user p (i + 1) && not (leader p (i + 1))) (matches p i) opener_served

    module _ (h : user p i ≡ true) where
      user_served : ltb 0 i && opener p (i - 1) && not (leader p i) && leb (slot p i) (arg_a p (i - 1)) ≡ true
      unfolding missing_results
      user_served = not_not _ (and_not (user p i) _ (or_right (unused_results p i) _ results_right) h)

      before_slot : ltb 0 i && opener p (i - 1) && not (leader p i) ≡ true
      before_slot = and_left _ (leb (slot p i) (arg_a p (i - 1))) user_served

      pub user_after : 0 < i
      user_after = ltb-true 0 i (and_left (ltb 0 i) (opener p (i - 1)) (and_left _ (not (leader p i)) before_slot))

      pub user_opener : opener p (i - 1) ≡ true
      user_opener = and_right (ltb 0 i) (opener p (i - 1)) (and_left _ (not (leader p i)) before_slot)

      pub user_within : leader p i ≡ false
      user_within = not_is (leader p i) (and_right (ltb 0 i && opener p (i - 1)) (not (leader p i)) before_slot)

      pub user_slot : slot p i ≤ arg_a p (i - 1)
      user_slot = leb-true (slot p i) (arg_a p (i - 1)) (and_right (ltb 0 i && opener p (i - 1) && not (leader p i)) (leb (slot p i) (arg_a p (i - 1))) user_served)

    -- ------------------------------------------------------------ 13 and 14

    behind_results : refuse_if (is p i CLOSURE && not (all_captures p i (captures_of p i))) 13 i else refuse_if (is p i TESTSET && reached p (i + 1)) 14 i ≡ fine
    unfolding use_verdict
    behind_results = else_then (refuse_if (unused_results p i || missing_results p i) 12 i) _ (use_fine i lt)

    pub closure_captures : opcode p i ≡ number_of CLOSURE → all_captures p i (captures_of p i) ≡ true
    closure_captures h =
        not_not _ (and_not (is p i CLOSURE) _ (refused_not _ 13 i (else_first _ (refuse_if (is p i TESTSET && reached p (i + 1)) 14 i) behind_results)) (eq-eqb (opcode p i) (number_of CLOSURE) h))

    pub set_unreached : opcode p i ≡ number_of TESTSET → (j : ℕ) → j < size p
        → times (i + 1) (reaches p j (flow_at p j)) ≡ 0
    unfolding reached
    set_unreached h j l =
        let none : reached p (i + 1) ≡ false = and_not (is p i TESTSET) _ (refused_not _ 14 i (else_then (refuse_if (is p i CLOSURE && not (all_captures p i (captures_of p i))) 13 i) _ behind_results)) (eq-eqb (opcode p i) (number_of TESTSET) h) in
        omega (arith, sum_at (λ j. times (i + 1) (reaches p j (flow_at p j))) (size p) j l, ltb-false 0 (sum (λ j. times (i + 1) (reaches p j (flow_at p j))) 0 (size p)) none)

    -- ------------------------------------------------------------ 15

    pub line_few : line_at p i ≤ most_line
    unfolding line_verdict
    line_few = ltb-false most_line (line_at p i) (refused_not (ltb most_line (line_at p i)) 15 i (line_fine i lt))

  -- a word behind none that opens takes nothing
  pub no_user : (i : ℕ) → opener p i ≡ false → user p (i + 1) ≡ false
  unfolding user
  no_user i h = either_way (ltb (i + 1) (size p)) inner outer
    where
      inner : ltb (i + 1) (size p) ≡ true → user p (i + 1) ≡ false
      inner l = either_way (user p (i + 1))
          (λ u. let e : i + 1 - 1 ≡ i = omega arith in clash (rw e at (user_opener (i + 1) (ltb-true (i + 1) (size p) l) u)) h)
          (λ u. u)

      outer : ltb (i + 1) (size p) ≡ false → user p (i + 1) ≡ false
      outer l = rw (word_beyond p (i + 1) (ltb-false (i + 1) (size p) l))

  -- nor does a leader
  pub leader_takes_none : (t : ℕ) → leader p t ≡ true → user p t ≡ false
  unfolding user
  leader_takes_none t h = either_way (ltb t (size p))
      (λ l. either_way (user p t) (λ u. clash h (user_within t (ltb-true t (size p) l) u)) (λ u. u))
      (λ l. rw (word_beyond p t (ltb-false t (size p) l)))
