-- Laws of how many statements a word gives, and which. Assumes nothing.
use Prim.Native.Nat.{ℕ, zero, suc, ◌-◌, ◌≤◌, ◌<◌}
use mir.Val.{bool_byte}
use mathlib.Core.Bool.{not, Bool, true, false, cond, ◌||◌}
use mathlib.Core.Path.{◌≡◌, refl}
use mathlib.Core.List.{[]}
use native.Mathlib.Omega.{arith}
use lib.Dec.{eqb, leb}
use lib.ListN.{length, get_or, get_or-eq_default}
use borrow.Author.Tests.{eqb-true, eqb-false, ne_eqb, leb-true}
use Rattle.lua51_instruction.specs.Word.{op_of, opcodes, UNKNOWN, CALL, TFORLOOP, SETLIST, VARARG}
use Rattle.basics.specs.Range.{only}
use Rattle.lua51_instruction.specs.Proto.{Proto, arg_a, arg_b, arg_c}
use Rattle.ast.specs.Statement.{Stmt, close, assign, registers, []ᵉ, one, select, vararg}
use Rattle.basics.proofs.Tests.{either_way}
use Rattle.lua51_instruction.proofs.Table.{all_below, all_below_lem}
use Rattle.lua51_lifter.specs.Lift.{statements_by}
use Rattle.lua51_calls.specs.Calls.{statement_of_call, statement_of_loop}
use Rattle.lua51_runs.proofs.Arms.{Missed, missed}

-- a list of one in both cases; of none or one
one_both : {arg_a : Type 0} (b : Bool) (x y : arg_a) → length (cond b (only x) (only y)) ≡ 1
one_both true x y = refl
one_both false x y = refl

none_or_one : {arg_a : Type 0} (b : Bool) (x : arg_a) → length (cond b [] (only x)) ≡ cond b 0 1
none_or_one true x = refl
none_or_one false x = refl

none_or_both : {arg_a : Type 0} (b d : Bool) (x y : arg_a) → length (cond b [] (cond d (only x) (only y))) ≡ cond b 0 1
none_or_both true d x y = refl
none_or_both false true x y = refl
none_or_both false false x y = refl

-- whether x is above 0, as a number
pub one_unless : (x : ℕ) → bool_byte (not (eqb x 0)) ≡ cond (eqb x 0) 0 1
one_unless x = go (eqb x 0)
  where
    go : (b : Bool) → bool_byte (not b) ≡ cond b 0 1
    go true = refl
    go false = refl

-- k is below 1, and x is above 0
pub positive : (x k : ℕ) → k < cond (eqb x 0) 0 1 → (k ≡ 0) × (0 < x)
positive x k h = go (eqb x 0) refl h
  where
    go : (b : Bool) → eqb x 0 ≡ b → k < cond b 0 1 → (k ≡ 0) × (0 < x)
    go true e h = absurd (omega arith)
    go false e h = (omega arith, omega (arith, eqb-false x 0 e))

-- no opcode has this number
pub past_last : (o : ℕ) → 38 ≤ o → op_of o ≡ UNKNOWN
unfolding op_of
past_last o h = get_or-eq_default opcodes UNKNOWN h

module _ (p : Proto) (i : ℕ) where
  pub setlist_count : length (statements_by p i SETLIST) ≡ 1
  unfolding statements_by
  setlist_count = one_both (eqb (arg_b p i) 0) _ _

  pub call_count : length (statements_by p i CALL) ≡ cond (eqb (arg_c p i) 0) 0 1
  unfolding statements_by
  call_count = none_or_both (eqb (arg_c p i) 0) (eqb (arg_c p i) 1) _ _

  pub vararg_count : length (statements_by p i VARARG) ≡ cond (eqb (arg_b p i) 0) 0 1
  unfolding statements_by
  vararg_count = none_or_one (eqb (arg_b p i) 0) _

  -- the opcodes whose count is not 1 whatever their operands are
  abbrev other : ℕ → Bool
  other o = eqb o 3 || (eqb o 11 || (eqb o 22 || (eqb o 28 || (eqb o 29 || (eqb o 33 || eqb o 37)))))

  abbrev single : ℕ → Bool
  single o = other o || (eqb o 34 || eqb (length (statements_by p i (op_of o))) 1)

  all_single : all_below single 38 ≡ true
  unfolding op_of statements_by
  all_single = refl

  pub one_each : (o : ℕ) → o ≤ 37 → other o ≡ false → length (statements_by p i (op_of o)) ≡ 1
  unfolding op_of
  one_each o le not = go (eqb o 34) refl (rw not at (all_below_lem single 38 o all_single (omega arith)))
    where
      go : (b : Bool) → eqb o 34 ≡ b → b || eqb (length (statements_by p i (op_of o))) 1 ≡ true → length (statements_by p i (op_of o)) ≡ 1
      go true e h = rw (eqb-true o 34 e) setlist_count
      go false e h = eqb-true (length (statements_by p i (op_of o))) 1 h

  -- from ADD to TESTSET: one, or for JMP none
  abbrev few : ℕ → Bool
  few o = eqb o 3 || (eqb o 11 || leb (length (statements_by p i (op_of o))) 1)

  all_few : all_below few 28 ≡ true
  unfolding op_of statements_by
  all_few = refl

  pub at_most_one : (o : ℕ) → 12 ≤ o → o ≤ 27 → length (statements_by p i (op_of o)) ≤ 1
  at_most_one o lo hi =
      leb-true (length (statements_by p i (op_of o))) 1
      (rw (ne_eqb o 3 (λ e. omega arith), ne_eqb o 11 (λ e. omega arith)) at (all_below_lem few 28 o all_few (omega arith)))

  -- TAILCALL gives none, nor does a number above the last opcode's
  pub none_else : (o : ℕ) → 28 ≤ o → (o ≡ 28 → ⊥) → Missed o 30 8 → length (statements_by p i (op_of o)) ≡ 0
  unfolding op_of statements_by
  none_else o lo not h = either_way (eqb o 29)
      (λ e. rw (eqb-true o 29 e))
      (λ e. rw (past_last o (missed o 30 8 (beyond (eqb-false o 29 e)) h)))
    where
      beyond : (o ≡ 29 → ⊥) → 30 ≤ o
      beyond ne = omega arith

  -- which statement TFORLOOP's are, and CALL's and VARARG's where there is one
  pub loop_at : (k : ℕ) → k < length (statements_by p i TFORLOOP) → get_or (statements_by p i TFORLOOP) k (close []) ≡ statement_of_loop (arg_a p i) (arg_c p i) k
  unfolding statements_by
  loop_at zero h = refl
  loop_at (suc zero) h = refl
  loop_at (suc (suc k)) h = absurd (omega arith)

  either_first : (b : Bool) (x y : Stmt) → get_or (cond b (only x) (only y)) 0 (close []) ≡ cond b x y
  either_first true x y = refl
  either_first false x y = refl

  pub call_at : 0 < arg_c p i → get_or (statements_by p i CALL) 0 (close []) ≡ statement_of_call p i
  unfolding statements_by
  call_at h = rw (ne_eqb (arg_c p i) 0 (λ e. omega arith)) (either_first (eqb (arg_c p i) 1) _ _)

  pub vararg_at : 0 < arg_b p i → get_or (statements_by p i VARARG) 0 (close []) ≡ assign (registers (arg_a p i) (arg_b p i - 1) []ᵉ) (one (select vararg))
  unfolding statements_by
  vararg_at h = rw (ne_eqb (arg_b p i) 0 (λ e. omega arith))
