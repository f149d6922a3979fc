-- A statement with an open tail names a user (document 02, 1): it is given by a word that takes open results. Assumes nothing.
use Prim.Native.Nat.{ℕ, zero, suc, ◌+◌, ◌-◌, ◌≤◌, ◌<◌}
use native.Mathlib.Omega.{arith}
use mathlib.Core.Bool.{Bool, true, false, cond, ◌||◌}
use mathlib.Core.Path.{◌≡◌, refl, sym}
use mathlib.Core.List.{List, [], ◌∷◌, ◌++◌}
use lib.Dec.{ltb, eqb}
use borrow.Author.Tests.{eqb-true, eq-eqb}
use Rattle.basics.specs.Range.{over, only}
use Rattle.basics.proofs.Tests.{either_way, clash}
use Rattle.lua51_instruction.specs.Word.{Op, MOVE, LOADK, LOADBOOL, LOADNIL, GETUPVAL, GETGLOBAL, GETTABLE, SETGLOBAL}
use Rattle.lua51_instruction.specs.Word.{SETUPVAL, SETTABLE, NEWTABLE, SELF, ADD, SUB, MUL, DIV, MOD, POW, UNM, NOT}
use Rattle.lua51_instruction.specs.Word.{LEN, CONCAT, JMP, EQ, LT, LE, TEST, TESTSET, CALL, TAILCALL, RETURN, FORLOOP}
use Rattle.lua51_instruction.specs.Word.{FORPREP, TFORLOOP, SETLIST, CLOSE, CLOSURE, VARARG, UNKNOWN, number_of}
use Rattle.lua51_instruction.specs.Proto.{Proto, size, is, opcode, op_at, arg_a, arg_b, arg_c}
use Rattle.ast.specs.Statement.{[]ᵉ, registers, expr, Stmt, nil, set_register}
use Rattle.lua51_lifter.specs.Lift.{statements, statements_by, on_then, pending, taken, tail_for, rk, concatenated}
use Rattle.lua51_lifter.specs.Blocks.{stated, Named, naming}
use Rattle.lua51_lifter.specs.Check.{user, check, fine}
use Rattle.lua51_lifter.specs.WordBehind.{arguments_of, some_open, some_call_open, open_tailed, TailsNamed}
use Rattle.lua51_instruction.proofs.Table.{op_number}
use Rattle.lua51_lifter.proofs.Accepted.{opcode_known}

-- ------------------------------------------------------------ values that are not open

registers_closed : (r n : ℕ) → some_open (registers r n []ᵉ) ≡ false
unfolding registers some_open expr
registers_closed r zero = refl
registers_closed r (suc n) = registers_closed (r + 1) n

rk_closed : (x : ℕ) → arguments_of (rk x) ≡ []ᵉ
unfolding rk arguments_of
rk_closed x = either_way (ltb 255 x) (λ e. rw e) (λ e. rw e)

concatenated_closed : (b n : ℕ) → arguments_of (concatenated b n) ≡ []ᵉ
unfolding concatenated arguments_of
concatenated_closed b zero = refl
concatenated_closed b (suc n) = refl

-- ------------------------------------------------------------ the statements of a word

-- a word with an opcode that may take open results is a user where its B is 0
pub user_by : (p : Proto) (i o : ℕ)
    → eqb o (number_of CALL) || eqb o (number_of TAILCALL) || eqb o (number_of RETURN) || eqb o (number_of SETLIST) ≡ true
    → opcode p i ≡ o → arg_b p i ≡ 0 → user p i ≡ true
unfolding user
user_by p i o takes n b = rw (n, takes, eq-eqb (arg_b p i) 0 b)

-- of word i, as statements that name i, whatever number stands for an opcode
module _ (p : Proto) (i number : ℕ) where
  abbrev Tails : List Stmt → Type 0
  Tails ss = TailsNamed p (naming i number ss)

  -- one that has no open tail
  quiet : (false ≡ true → user p i ≡ true) × Unit {0}
  quiet = (λ t. clash t refl, tt)

  pub nils_closed : (r n : ℕ) → Tails (over (λ x. only (set_register x nil)) r n)
  unfolding over naming open_tailed some_call_open some_open arguments_of
  nils_closed r zero = tt
  nils_closed r (suc n) = (λ t. clash t refl, nils_closed (r + 1) n)

  either : (b : Bool) (xs ys : List Stmt) → (b ≡ true → Tails xs) → (b ≡ false → Tails ys) → Tails (cond b xs ys)
  either true xs ys f g = f refl
  either false xs ys f g = g refl

  -- what it takes is open only where its B is 0
  taken_open : (slot : ℕ) → (arg_b p i ≡ 0 → user p i ≡ true) → some_open (taken p i slot (tail_for p i)) ≡ true → user p i ≡ true
  unfolding taken
  taken_open slot u t = either_way (eqb (arg_b p i) 0)
      (λ e. u (eqb-true (arg_b p i) 0 e))
      (λ e. clash (rw e at t) (registers_closed slot (arg_b p i - 1)))

  by_rule : (o : Op) → opcode p i ≡ number_of o → Tails (statements_by p i o)
  unfolding statements_by naming open_tailed some_call_open some_open arguments_of expr
  by_rule MOVE n = quiet
  by_rule LOADK n = quiet
  by_rule LOADBOOL n = quiet
  by_rule LOADNIL n = nils_closed (arg_a p i) (arg_b p i + 1 - arg_a p i)
  by_rule GETUPVAL n = quiet
  by_rule GETGLOBAL n = quiet
  by_rule GETTABLE n = quiet
  by_rule SETGLOBAL n = quiet
  by_rule SETUPVAL n = quiet
  by_rule SETTABLE n = (λ t. clash (rw (rk_closed (arg_c p i)) at t) refl, tt)
  by_rule NEWTABLE n = quiet
  by_rule SELF n = (λ t. clash t refl, quiet)
  by_rule ADD n = quiet
  by_rule SUB n = quiet
  by_rule MUL n = quiet
  by_rule DIV n = quiet
  by_rule MOD n = quiet
  by_rule POW n = quiet
  by_rule UNM n = quiet
  by_rule NOT n = quiet
  by_rule LEN n = quiet
  by_rule CONCAT n = (λ t. clash (rw (concatenated_closed (arg_b p i) (arg_c p i - arg_b p i)) at t) refl, tt)
  by_rule JMP n = tt
  by_rule EQ n = quiet
  by_rule LT n = quiet
  by_rule LE n = quiet
  by_rule TEST n = quiet
  by_rule TESTSET n = quiet
  by_rule CALL n = either (eqb (arg_c p i) 0) _ _ (λ e. tt)
      (λ e. either (eqb (arg_c p i) 1) _ _ (λ d. called) (λ d. called))
    where
      called : (some_open (taken p i (arg_a p i + 1) (tail_for p i)) ≡ true → user p i ≡ true) × Unit {0}
      called = (taken_open (arg_a p i + 1) (user_by p i (number_of CALL) refl n), tt)
  by_rule TAILCALL n = tt
  by_rule RETURN n = (taken_open (arg_a p i) (user_by p i (number_of RETURN) refl n), tt)
  by_rule FORLOOP n = quiet
  by_rule FORPREP n = quiet
  by_rule TFORLOOP n = (λ t. clash t (registers_closed (arg_a p i + 1) 2), quiet)
  by_rule SETLIST n = either (eqb (arg_b p i) 0) _ _ (λ e. (λ t. user_by p i (number_of SETLIST) refl n (eqb-true (arg_b p i) 0 e), tt))
      (λ e. (λ t. clash t (registers_closed (arg_a p i + 1) (arg_b p i)), tt))
  by_rule CLOSE n = quiet
  by_rule CLOSURE n = quiet
  by_rule VARARG n = either (eqb (arg_b p i) 0) _ _ (λ e. tt) (λ e. quiet)
  by_rule UNKNOWN n = tt

  pub stated_tails : check p ≡ fine → i < size p → Tails (statements p i)
  unfolding statements naming
  stated_tails ok lt = either (ltb 0 (pending p i)) [] (statements_by p i (op_at p i)) (λ e. tt)
      (λ e. by_rule (op_at p i) (sym (op_number p i (opcode_known p ok i lt))))

  pub brought_tails : Tails (on_then p i)
  unfolding on_then naming open_tailed some_call_open some_open arguments_of
  brought_tails = either (is p i TESTSET) _ _ (λ e. quiet)
      (λ e. either (is p i FORLOOP) _ _ (λ e. quiet) (λ e. either (is p i TFORLOOP) _ _ (λ e. quiet) (λ e. tt)))

-- ------------------------------------------------------------ the statements of a block

module _ (p : Proto) where
  pub tails_append : (xs ys : List Named) → TailsNamed p xs → TailsNamed p ys → TailsNamed p (xs ++ ys)
  tails_append [] ys f g = g
  tails_append (x ∷ xs) ys f g = (f.0, tails_append xs ys f.1 g)

  pub tails_words : check p ≡ fine → (t k : ℕ) → t + k ≤ size p → TailsNamed p (over (stated naming p) t k)
  unfolding over stated
  tails_words ok t zero within = tt
  tails_words ok t (suc k) within =
      tails_append (stated naming p t) (over (stated naming p) (t + 1) k)
      (stated_tails p t (opcode p t) ok (omega arith)) (tails_words ok (t + 1) k (omega arith))
