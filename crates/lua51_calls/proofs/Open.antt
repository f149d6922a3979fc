-- Laws of open results: variable arguments, a call, and a call that takes open results itself. Assumes nothing.
use Prim.Native.Nat.{ℕ, zero, suc, ◌+◌, ◌-◌, ◌<◌}
use mathlib.Core.Path.{◌≡◌, refl}
use mathlib.Core.List.{◌∷◌, ◌++◌, append-nil}
use native.Mathlib.Omega.{arith}
use mathlib.Core.Bool.{Bool, true, false, cond}
use lib.Dec.{eqb}
use borrow.Author.Tests.{eq-eqb, ne_eqb, eqb-true}
use Rattle.lua51_instruction.specs.Word.{VARARG, number_of}
use Rattle.lua51_instruction.specs.Proto.{Proto, word, opcode, is, arg_a, arg_b}
use Rattle.ast.specs.Statement.{Expr, Exprs, vararg, call, register, registers, []ᵉ, one, count, expr, exprs}
use Rattle.ast.proofs.Registers.{exprs_registers, count_registers}
use Rattle.lua51_lifter.specs.Lift.{open_results, taken}
use Rattle.lua51_calls.specs.Calls.{below, open_call_numbers, results_alone}

module _ (p : Proto) where
  -- variable arguments
  pub open_vararg : (j : ℕ) → opcode p j ≡ number_of VARARG → open_results p j ≡ results_alone (word p j)
  unfolding open_results results_alone
  open_vararg zero is = rw (eq-eqb _ _ is)
  open_vararg (suc j) is = rw (eq-eqb _ _ is)

  -- a call with arguments that are not open
  pub open_closed : (j : ℕ) → 0 < arg_b p j → open_results p j ≡ results_alone (word p j)
  unfolding open_results taken results_alone
  open_closed zero some = rw (ne_eqb (arg_b p zero) 0 (λ e. omega arith))
  open_closed (suc j) some = rw (ne_eqb (arg_b p (suc j)) 0 (λ e. omega arith))

  -- word 0 has no word before it
  pub open_first : open_results p 0 ≡ results_alone (word p 0)
  unfolding open_results taken results_alone
  open_first = go (eqb (arg_b p 0) 0) refl
    where
      go : (b : Bool) → eqb (arg_b p 0) 0 ≡ b
          → cond (is p 0 VARARG) vararg (call (register (arg_a p 0)) (cond b (registers (arg_a p 0 + 1) (arg_a p 0 - (arg_a p 0 + 1)) []ᵉ) (registers (arg_a p 0 + 1) (arg_b p 0 - 1) []ᵉ)))
          ≡ cond (is p 0 VARARG) vararg (call (register (arg_a p 0)) (registers (arg_a p 0 + 1) (arg_b p 0 - 1) []ᵉ))
      go true e =
          let none : arg_a p 0 - (arg_a p 0 + 1) ≡ arg_b p 0 - 1 = omega (arith, eqb-true (arg_b p 0) 0 e) in
          rw none
      go false e = refl

  -- what an open user's values are: the registers below its opener, then the open results
  pub tail_numbers_lem : (slot opener : ℕ) (x : Expr)
      → count (registers slot (opener - slot) (one x)) ∷ exprs (registers slot (opener - slot) (one x)) ≡ below slot opener ++ expr x
  unfolding count exprs
  tail_numbers_lem slot opener x = rw (count_registers, exprs_registers slot (opener - slot) (one x), append-nil)

  -- what a word takes
  pub taken_closed : (i slot : ℕ) (tail : Exprs) → 0 < arg_b p i → taken p i slot tail ≡ registers slot (arg_b p i - 1) []ᵉ
  unfolding taken
  taken_closed i slot tail some = rw (ne_eqb (arg_b p i) 0 (λ e. omega arith))

  pub taken_open : (i slot : ℕ) (tail : Exprs) → arg_b p i ≡ 0 → taken p i slot tail ≡ registers slot (arg_a p (i - 1) - slot) tail
  unfolding taken
  taken_open i slot tail none = rw (eq-eqb (arg_b p i) 0 none)

  pub link_numbers : (j : ℕ) → (opcode p (suc j) ≡ number_of VARARG → ⊥) → arg_b p (suc j) ≡ 0
      → expr (open_results p (suc j)) ≡ open_call_numbers (arg_a p (suc j)) (arg_a p j) ++ expr (open_results p j)
  unfolding open_results taken expr
  link_numbers j not none =
      let before : suc j - 1 ≡ j = omega arith in
      rw (ne_eqb _ _ not, eq-eqb _ _ none, before, tail_numbers_lem (arg_a p (suc j) + 1) (arg_a p j) (open_results p j))

  -- a call that takes the open results of the word before it
  pub open_link : (j : ℕ) → 0 < j → (opcode p j ≡ number_of VARARG → ⊥) → arg_b p j ≡ 0
      → expr (open_results p j) ≡ open_call_numbers (arg_a p j) (arg_a p (j - 1)) ++ expr (open_results p (j - 1))
  open_link zero some not none = absurd (omega arith)
  open_link (suc j) some not none =
      let before : suc j - 1 ≡ j = omega arith in
      rw (before, link_numbers j not none)
