-- How long runs are: the registers of a run, and the open results of an accepted function, whose chain is short because A rises
-- from each user to its opener. Assumes nothing.
use Prim.Native.Nat.{ℕ, zero, suc, ◌+◌, ◌-◌, ◌*◌, ◌≤◌, ◌<◌}
use mathlib.Core.Bool.{Bool, true, false, cond}
use mathlib.Core.Path.{◌≡◌, refl}
use native.Mathlib.Omega.{arith}
use lib.Dec.{eqb}
use lib.ListN.{length, length-append}
use borrow.Author.Tests.{eqb-true, eqb-false, eq-eqb, ne_eqb}
use Rattle.lua51_instruction.specs.Word.{VARARG, CALL, TAILCALL, number_of, field_opcode, field_a, field_b}
use Rattle.lua51_instruction.specs.Proto.{Proto, size, word, opcode, arg_a, arg_b}
use Rattle.basics.proofs.Tests.{either_way, clash}
use Rattle.ast.specs.Statement.{register, call, vararg, registers, []ᵉ, expr, exprs}
use Rattle.lua51_lifter.specs.Check.{check, fine, opener, user, slot}
use Rattle.lua51_lifter.specs.Lift.{open_results}
use Rattle.lua51_calls.specs.Calls.{results_alone}
use Rattle.lua51_lifter.proofs.Accepted.{user_opener, user_slot}
use Rattle.lua51_calls.proofs.Open.{open_vararg, open_closed, open_first, link_numbers}

-- n registers are 2 n numbers
pub registers_length : (r n : ℕ) → length (exprs (registers r n []ᵉ)) ≡ 2 * n
unfolding registers exprs expr
registers_length r zero = refl
registers_length r (suc n) = omega (arith, registers_length (r + 1) n)

-- a word that takes no open results itself
last_length : (w : ℕ) → length (expr (results_alone w)) ≤ 1024
unfolding results_alone expr
last_length w = go (eqb (field_opcode w) (number_of VARARG))
  where
    go : (b : Bool) → length (expr (cond b vararg (call (register (field_a w)) (registers (field_a w + 1) (field_b w - 1) []ᵉ)))) ≤ 1024
    go true = omega arith
    go false = omega (arith, registers_length (field_a w + 1) (field_b w - 1))

module _ (p : Proto) (ok : check p ≡ fine) where
  -- what opens and is no VARARG takes open results where its B is 0, and not as RETURN does
  opener_takes : (j : ℕ) → opener p j ≡ true → (opcode p j ≡ number_of VARARG → ⊥) → arg_b p j ≡ 0 → (user p j ≡ true) × (slot p j ≡ arg_a p j + 1)
  unfolding opener user slot
  opener_takes j o not none = either_way (eqb (opcode p j) (number_of CALL))
      (λ c. let n : opcode p j ≡ number_of CALL = eqb-true (opcode p j) (number_of CALL) c in (rw (n, eq-eqb (arg_b p j) 0 none), rw n))
      (λ c. either_way (eqb (opcode p j) (number_of TAILCALL))
      (λ t. let n : opcode p j ≡ number_of TAILCALL = eqb-true (opcode p j) (number_of TAILCALL) t in (rw (n, eq-eqb (arg_b p j) 0 none), rw n))
      (λ t. clash o (rw (c, t, ne_eqb (opcode p j) (number_of VARARG) not))))

  -- the two kinds of word that end a chain
  ended : (j : ℕ) → open_results p j ≡ results_alone (word p j) → length (expr (open_results p j)) ≤ 4 * (256 - arg_a p j) + 1024
  ended j e = rw e (omega (arith, last_length (word p j)))

  -- a link of a chain: A rises by more than the registers between
  linked : (j : ℕ) → suc j < size p → opener p (suc j) ≡ true → (opcode p (suc j) ≡ number_of VARARG → ⊥) → arg_b p (suc j) ≡ 0
      → (opener p j ≡ true → length (expr (open_results p j)) ≤ 4 * (256 - arg_a p j) + 1024)
      → length (expr (open_results p (suc j))) ≤ 4 * (256 - arg_a p (suc j)) + 1024
  linked j lt o not none before =
      let takes = opener_takes (suc j) o not none in
      let back : suc j - 1 ≡ j = omega arith in
      let rest = before (rw back at (user_opener p ok (suc j) lt takes.0)) in
      let rises : arg_a p (suc j) + 1 ≤ arg_a p j = rw (takes.1, back) at (user_slot p ok (suc j) lt takes.0) in
      rw (link_numbers p j not none, length-append) (omega (arith, rest, rises, registers_length (arg_a p (suc j) + 1) (arg_a p j - (arg_a p (suc j) + 1))))

  -- the open results of word j
  pub open_length : (j : ℕ) → j < size p → opener p j ≡ true → length (expr (open_results p j)) ≤ 4 * (256 - arg_a p j) + 1024
  open_length zero lt o = ended zero (open_first p)
  open_length (suc j) lt o = either_way (eqb (opcode p (suc j)) (number_of VARARG))
      (λ v. ended (suc j) (open_vararg p (suc j) (eqb-true (opcode p (suc j)) (number_of VARARG) v)))
      (λ v. either_way (eqb (arg_b p (suc j)) 0)
      (λ b. linked j lt o (eqb-false (opcode p (suc j)) (number_of VARARG) v) (eqb-true (arg_b p (suc j)) 0 b) (λ h. open_length j (omega arith) h))
      (λ b. ended (suc j) (open_closed p (suc j) (positive_of (eqb-false (arg_b p (suc j)) 0 b)))))
    where
      positive_of : (arg_b p (suc j) ≡ 0 → ⊥) → 0 < arg_b p (suc j)
      positive_of ne = omega arith
