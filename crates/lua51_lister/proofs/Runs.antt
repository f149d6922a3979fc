-- Every run of an accepted function fits a buffer of 4,096 numbers. Assumes nothing.
use Prim.Native.Nat.{ℕ, zero, suc, ◌+◌, ◌-◌, ◌*◌, ◌≤◌, ◌<◌}
use mathlib.Core.Bool.{Bool, true, false, cond}
use mathlib.Core.Path.{◌≡◌, refl, sym, ap, ◌∙◌}
use mathlib.Core.List.{List, [], ◌∷◌, ◌++◌, append-nil, flat_map}
use native.Mathlib.Omega.{arith}
use lib.Dec.{eqb, ltb}
use lib.ListN.{length, length-append}
use borrow.Author.Tests.{eqb-true, eqb-false}
use Rattle.lua51_instruction.specs.Word.{Op, MOVE, LOADK, LOADBOOL, LOADNIL, GETUPVAL, GETGLOBAL, GETTABLE, SETGLOBAL, SETUPVAL, SETTABLE, NEWTABLE, SELF, ADD, SUB, MUL, DIV, MOD, POW, UNM, NOT, LEN, CONCAT, JMP, EQ, LT, LE, TEST, TESTSET, CALL, TAILCALL, RETURN, FORLOOP, FORPREP, TFORLOOP, SETLIST, CLOSE, CLOSURE, VARARG, UNKNOWN, number_of}
use Rattle.basics.specs.Range.{over, only}
use Rattle.lua51_instruction.specs.Proto.{Proto, is, size, opcode, op_at, arg_a, arg_b, arg_c, closure_of, captures_of}
use Rattle.basics.proofs.Tests.{either_way}
use Rattle.lua51_instruction.proofs.Table.{op_number}
use Rattle.ast.specs.Statement.{Stmt, Expr, register, constant, index, binary, unary, select, vararg, call, nil, op_not, []ᵉ, one, registers, close, assign, set_register, if_statement, count, expr, exprs, run, tail_numbers, Tail, no_tail, open_tail, set_list}
use Rattle.lua51_lifter.specs.Check.{check, fine, user}
use Rattle.lua51_lifter.specs.Lift.{pending, statements, on_then, operation, comparison, rk, condition, concatenated, captures, open_results, taken, call_with, tail_for, statements_by}
use Rattle.lua51_statements.specs.Lines.{line_within, own_statements}
use Rattle.lua51_runs.specs.Runs.{run_at, listed}
use Rattle.lua51_calls.specs.Calls.{below, counted}
use Rattle.lua51_lifter.proofs.Accepted.{user_opener, opcode_known}
use Rattle.lua51_lifter.proofs.Tails.{user_by}
use Rattle.basics.proofs.Range.{over_length, over_at}
use Rattle.lua51_runs.proofs.Assigned.{set_numbers, assign_numbers, list_numbers}
use Rattle.lua51_runs.proofs.Captured.{closure_numbers, first_capture}
use Rattle.lua51_statements.proofs.Nils.{line_fits}
use Rattle.lua51_statements.proofs.Pieces.{pieces_append}
use Rattle.lua51_calls.proofs.Open.{taken_closed, taken_open, tail_numbers_lem}
use Rattle.lua51_lister.proofs.Fits.{registers_length, open_length}
use Rattle.lua51_lifter.specs.Blocks.{stated, brought, name, naming}
use Rattle.lua51_lifter.specs.Listing.{statement_line}

-- the numbers of a buffer that holds every run
abbrev pub room : ℕ
room = 4096

-- each statement of a list fits
abbrev pub Fit : List Stmt → Type 0
Fit ss = (k : ℕ) → k < length ss → length (run_at ss k) ≤ room

fit_none : Fit []
fit_none k h = absurd (omega arith)

fit_one : (s : Stmt) → length (run s) ≤ room → Fit (only s)
fit_one s h zero lt = h
fit_one s h (suc k) lt = absurd (omega arith)

fit_two : (s t : Stmt) → length (run s) ≤ room → length (run t) ≤ room → Fit (s ∷ t ∷ [])
fit_two s t h g zero lt = h
fit_two s t h g (suc zero) lt = g
fit_two s t h g (suc (suc k)) lt = absurd (omega arith)

-- where each fits, each line is printed whole, whatever word i and opcode o they name
fit_lines : (n : ℕ) → room ≤ n → (i o : ℕ) (ss : List Stmt) → Fit ss → flat_map (line_within n) (naming i o ss) ≡ flat_map statement_line (naming i o ss)
unfolding naming flat_map
fit_lines n h i o [] f = refl
fit_lines n h i o (s ∷ ss) f =
    let first : length (run s) ≤ room = f 0 (omega arith) in
    rw (line_fits n (name i o s) (omega arith), fit_lines n h i o ss (λ k lt. f (suc k) (omega arith)))

fit_cond : (b : Bool) (xs ys : List Stmt) → (b ≡ true → Fit xs) → (b ≡ false → Fit ys) → Fit (cond b xs ys)
fit_cond true xs ys f g = f refl
fit_cond false xs ys f g = g refl

-- ---- lengths of expressions

rk_length : (x : ℕ) → length (expr (rk x)) ≡ 2
unfolding rk expr
rk_length x = go (ltb 255 x)
  where
    go : (b : Bool) → length (expr (cond b (constant (x - 256)) (register x))) ≡ 2
    go true = refl
    go false = refl

concatenated_length : (r n : ℕ) → length (expr (concatenated r n)) ≡ 4 * n + 2
unfolding concatenated expr
concatenated_length r zero = refl
concatenated_length r (suc n) = omega (arith, concatenated_length (r + 1) n)

captures_length : (p : Proto) (i n : ℕ) → length (exprs (captures p i n)) ≡ 2 * n
unfolding captures exprs
captures_length p i zero = refl
captures_length p i (suc n) = rw (first_capture p i n) (omega (arith, captures_length p (i + 1) n))

condition_length : (flag : ℕ) (x : Expr) → length (expr (condition flag x)) ≤ 2 + length (expr x)
unfolding condition expr
condition_length flag x = go (eqb flag 0)
  where
    go : (b : Bool) → length (expr (cond b (unary op_not x) x)) ≤ 2 + length (expr x)
    go true = omega arith
    go false = omega arith

-- ---- lengths of statements

set_length : (r : ℕ) (x : Expr) → length (run (set_register r x)) ≡ 5 + length (expr x)
set_length r x = ap length (set_numbers r x) ∙ omega arith

index_length : (x y : Expr) → length (expr (index x y)) ≡ 1 + (length (expr x) + length (expr y))
unfolding expr
index_length x y = omega (arith, length-append (expr x) (expr y))

binary_length : (o : ℕ) (x y : Expr) → length (expr (binary o x y)) ≡ 2 + (length (expr x) + length (expr y))
unfolding expr
binary_length o x y = omega (arith, length-append (expr x) (expr y))

operands_length : (o x y : ℕ) → length (expr (binary o (rk x) (rk y))) ≡ 6
operands_length o x y = omega (arith, binary_length o (rk x) (rk y), rk_length x, rk_length y)

pair_length : (x y : Expr) → length (run (assign (one x) (one y))) ≡ 3 + (length (expr x) + length (expr y))
unfolding run count exprs
pair_length x y = rw (append-nil (expr x), append-nil (expr y)) (omega (arith, length-append (expr x) (expr y)))

list_length : (a c n : ℕ) (t : Tail) → length (run (set_list a ((c - 1) * 50 + 1) (registers (a + 1) n []ᵉ) t)) ≡ 4 + 2 * n + length (tail_numbers t)
list_length a c n t =
    ap length (list_numbers a c n t) ∙ (length-append (listed a c n) (tail_numbers t) ∙ omega (arith, registers_length (a + 1) n))

module _ (p : Proto) (ok : check p ≡ fine) (i : ℕ) (lt : i < size p) (stack : p.stack ≤ 255) (caps : captures_of p i ≤ 255) where
  open_short : user p i ≡ true → length (expr (open_results p (i - 1))) ≤ 2048
  open_short u = omega (arith, open_length p ok (i - 1) (omega arith) (user_opener p ok i lt u))

  -- what a word takes
  open_numbers : (slot : ℕ) → arg_b p i ≡ 0 → counted (taken p i slot (tail_for p i)) ≡ below slot (arg_a p (i - 1)) ++ expr (open_results p (i - 1))
  open_numbers slot none = rw (taken_open p i slot (tail_for p i) none) (tail_numbers_lem p slot (arg_a p (i - 1)) (open_results p (i - 1)))

  taken_length : (slot : ℕ) → (arg_b p i ≡ 0 → user p i ≡ true) → length (counted (taken p i slot (tail_for p i))) ≤ 2559
  taken_length slot u = either_way (eqb (arg_b p i) 0)
      (λ e. let none = eqb-true (arg_b p i) 0 e in
      omega (
        arith,
        ap length (open_numbers slot none),
        length-append (below slot (arg_a p (i - 1))) (expr (open_results p (i - 1))),
        open_short (u none),
        registers_length slot (arg_a p (i - 1) - slot),
      ))
      (λ e. rw (taken_closed p i slot (tail_for p i) (positive_of (eqb-false (arg_b p i) 0 e))) (omega (arith, registers_length slot (arg_b p i - 1))))
    where
      positive_of : (arg_b p i ≡ 0 → ⊥) → 0 < arg_b p i
      positive_of ne = omega arith

  call_length : (arg_b p i ≡ 0 → user p i ≡ true) → length (expr (call_with p i (tail_for p i))) ≤ 2562
  unfolding expr
  call_length u = omega (arith, taken_length (arg_a p i + 1) u)

  fit_operation : (o : ℕ) → Fit (operation p i o)
  fit_operation o = fit_one _ (omega (arith, set_length (arg_a p i) (binary o (rk (arg_b p i)) (rk (arg_c p i))), operands_length o (arg_b p i) (arg_c p i)))

  fit_test : (flag : ℕ) (x : Expr) → length (expr x) ≤ 6 → Fit (only (if_statement (condition flag x)))
  unfolding run
  fit_test flag x h = fit_one _ (omega (arith, condition_length flag x))

  fit_comparison : (o : ℕ) → Fit (comparison p i o)
  fit_comparison o = fit_test (arg_a p i) (binary o (rk (arg_b p i)) (rk (arg_c p i))) (omega (arith, operands_length o (arg_b p i) (arg_c p i)))

  fit_index : length (run (set_register (arg_a p i) (index (register (arg_b p i)) (rk (arg_c p i))))) ≤ room
  unfolding expr
  fit_index = omega (arith, set_length (arg_a p i) (index (register (arg_b p i)) (rk (arg_c p i))), index_length (register (arg_b p i)) (rk (arg_c p i)), rk_length (arg_c p i))

  fit_lefts : (r n : ℕ) (x : Expr) → n ≤ 511 → length (expr x) ≤ 2600 → length (run (assign (registers r n []ᵉ) (one x))) ≤ room
  fit_lefts r n x h g = rw (assign_numbers r n x, length-append) (omega (arith, registers_length r n))

  fits_by : (o : Op) → opcode p i ≡ number_of o → Fit (statements_by p i o)
  unfolding statements_by run count exprs expr tail_numbers
  fits_by MOVE n = fit_one _ (omega arith)
  fits_by LOADK n = fit_one _ (omega arith)
  fits_by LOADBOOL n = fit_one _ (omega arith)
  fits_by LOADNIL n = λ k h. rw (over_at (λ r. set_register r nil) (arg_a p i) (arg_b p i + 1 - arg_a p i) k (close []) (rw (over_length (λ r. set_register r nil) (arg_a p i) (arg_b p i + 1 - arg_a p i)) at h)) (omega arith)
  fits_by GETUPVAL n = fit_one _ (omega arith)
  fits_by GETGLOBAL n = fit_one _ (omega arith)
  fits_by GETTABLE n = fit_one _ fit_index
  fits_by SETGLOBAL n = fit_one _ (omega arith)
  fits_by SETUPVAL n = fit_one _ (omega arith)
  fits_by SETTABLE n = fit_one _ (omega (arith, pair_length (index (register (arg_a p i)) (rk (arg_b p i))) (rk (arg_c p i)), index_length (register (arg_a p i)) (rk (arg_b p i)), rk_length (arg_b p i), rk_length (arg_c p i)))
  fits_by NEWTABLE n = fit_one _ (omega arith)
  fits_by SELF n = fit_two _ _ (omega arith) fit_index
  fits_by ADD n = fit_operation 1
  fits_by SUB n = fit_operation 2
  fits_by MUL n = fit_operation 3
  fits_by DIV n = fit_operation 4
  fits_by MOD n = fit_operation 5
  fits_by POW n = fit_operation 6
  fits_by UNM n = fit_one _ (omega arith)
  fits_by NOT n = fit_one _ (omega arith)
  fits_by LEN n = fit_one _ (omega arith)
  fits_by CONCAT n = fit_one _ (omega (arith, set_length (arg_a p i) (concatenated (arg_b p i) (arg_c p i - arg_b p i)), concatenated_length (arg_b p i) (arg_c p i - arg_b p i)))
  fits_by JMP n = fit_none
  fits_by EQ n = fit_comparison 8
  fits_by LT n = fit_comparison 10
  fits_by LE n = fit_comparison 11
  fits_by TEST n = fit_test (arg_c p i) (register (arg_a p i)) (omega arith)
  fits_by TESTSET n = fit_test (arg_c p i) (register (arg_b p i)) (omega arith)
  fits_by CALL n =
      fit_cond (eqb (arg_c p i) 0) _ _ (λ e. fit_none)
      (λ e. fit_cond (eqb (arg_c p i) 1) _ _
      (λ d. fit_one _ (omega (arith, call_length (user_by p i (number_of CALL) refl n))))
      (λ d. fit_one _ (fit_lefts (arg_a p i) (arg_c p i - 1) (select (call_with p i (tail_for p i))) (omega arith) (omega (arith, call_length (user_by p i (number_of CALL) refl n))))))
  fits_by TAILCALL n = fit_none
  fits_by RETURN n = fit_one _ (omega (arith, taken_length (arg_a p i) (user_by p i (number_of RETURN) refl n)))
  fits_by FORLOOP n = fit_one _ (omega arith)
  fits_by FORPREP n = fit_one _ (omega arith)
  fits_by TFORLOOP n =
      fit_two _ _
      (fit_lefts (arg_a p i + 3) (arg_c p i) (call (register (arg_a p i)) (registers (arg_a p i + 1) 2 []ᵉ)) (omega arith) (omega (arith, registers_length (arg_a p i + 1) 2)))
      (omega arith)
  fits_by SETLIST n =
      fit_cond (eqb (arg_b p i) 0) _ _
      (λ e. fit_one _ (omega (arith, list_length (arg_a p i) (arg_c p i) (arg_a p (i - 1) - (arg_a p i + 1)) (open_tail (open_results p (i - 1))), open_short (user_by p i (number_of SETLIST) refl n (eqb-true (arg_b p i) 0 e)))))
      (λ e. fit_one _ (omega (arith, list_length (arg_a p i) (arg_c p i) (arg_b p i) no_tail)))
  fits_by CLOSE n = fit_one _ (omega (arith, over_length (λ r. r) (arg_a p i) (p.stack - arg_a p i)))
  fits_by CLOSURE n = fit_one _ (omega (arith, ap length (closure_numbers (arg_a p i) (closure_of p i) (captures p i (captures_of p i))), captures_length p i (captures_of p i)))
  fits_by VARARG n =
      fit_cond (eqb (arg_b p i) 0) _ _ (λ e. fit_none)
      (λ e. fit_one _ (fit_lefts (arg_a p i) (arg_b p i - 1) (select vararg) (omega arith) (omega arith)))
  fits_by UNKNOWN n = fit_none

  -- each statement of word i
  pub runs_fit : Fit (own_statements p i)
  runs_fit = fits_by (op_at p i) (sym (op_number p i (opcode_known p ok i lt)))

  -- in a buffer of 4,096 numbers or more each of its S lines is whole; a capture has none
  stated_whole : (n : ℕ) → room ≤ n → flat_map (line_within n) (stated naming p i) ≡ flat_map statement_line (stated naming p i)
  unfolding stated statements
  stated_whole n h = fit_lines n h i (opcode p i) (cond (ltb 0 (pending p i)) [] (own_statements p i))
      (fit_cond (ltb 0 (pending p i)) [] (own_statements p i) (λ e. fit_none) (λ e. runs_fit))

-- the S lines of a block's words
pub body_whole : (p : Proto) → check p ≡ fine → p.stack ≤ 255 → ((i : ℕ) → captures_of p i ≤ 255)
    → (n : ℕ) → room ≤ n → (from count : ℕ) → from + count ≤ size p
    → flat_map (line_within n) (over (stated naming p) from count) ≡ flat_map statement_line (over (stated naming p) from count)
unfolding over flat_map
body_whole p ok stack caps n h from zero within = refl
body_whole p ok stack caps n h from (suc count) within =
    rw (
      pieces_append (line_within n) (stated naming p from) (over (stated naming p) (from + 1) count),
      pieces_append statement_line (stated naming p from) (over (stated naming p) (from + 1) count),
      stated_whole p ok from (omega arith) stack (caps from) n h,
      body_whole p ok stack caps n h (from + 1) count (omega arith),
    )

-- the assignment on a Then edge
pub then_whole : (p : Proto) (i n : ℕ) → room ≤ n → flat_map (line_within n) (brought naming p i) ≡ flat_map statement_line (brought naming p i)
unfolding brought on_then run count exprs expr
then_whole p i n h = fit_lines n h i (opcode p i) _
    (fit_cond (is p i TESTSET) _ _ (λ e. fit_one _ (omega arith))
    (λ e. fit_cond (is p i FORLOOP) _ _ (λ e. fit_one _ (omega arith))
    (λ e. fit_cond (is p i TFORLOOP) _ _ (λ e. fit_one _ (omega arith)) (λ e. fit_none))))
