-- Laws of registers one after the other: assignments to them, set lists, their numbers, joined. Assumes nothing.
use Prim.Native.Nat.{ℕ, suc, ◌+◌, ◌-◌, ◌*◌}
use mathlib.Core.List.{[], ◌∷◌, ◌++◌, append-nil}
use mathlib.Core.Path.{◌≡◌}
use native.Mathlib.Omega.{arith}
use Rattle.basics.specs.Range.{over, only}
use Rattle.ast.specs.Statement.{Expr, registers, []ᵉ, one, assign, set_register, set_list, Tail, run, count, expr, exprs, tail_numbers}
use Rattle.ast.proofs.Registers.{count_registers_alone}
use Rattle.lua51_lifter.specs.Lift.{concatenated}
use Rattle.lua51_runs.specs.Runs.{assigned, lefts, listed}

-- the first of n numbers from r on, and the m behind it; and none
pub range_turn : (r n m : ℕ) → n ≡ m + 1 → over only r n ≡ r ∷ over only (r + 1) m
unfolding over
range_turn r n m e =
    let more : n ≡ suc m = omega arith in
    rw more

pub range_done : (r n : ℕ) → n ≡ 0 → over only r n ≡ []
unfolding over
range_done r n e = rw e

-- an assignment to one register
pub set_numbers : (r : ℕ) (x : Expr) → run (set_register r x) ≡ assigned r (expr x)
unfolding run count exprs expr
set_numbers r x = rw append-nil

-- an assignment of one value to n registers: what stands before the value
pub assign_numbers : (r n : ℕ) (x : Expr) → run (assign (registers r n []ᵉ) (one x)) ≡ lefts r n ++ expr x
unfolding run exprs count
assign_numbers r n x = rw (count_registers_alone r n, append-nil)

-- a set list: what stands before its tail
pub list_numbers : (a c n : ℕ) (t : Tail) → run (set_list a ((c - 1) * 50 + 1) (registers (a + 1) n []ᵉ) t) ≡ listed a c n ++ tail_numbers t
unfolding run
list_numbers a c n t = rw (count_registers_alone (a + 1) n)

-- n registers from r on and one more, joined: the first of them, and the m behind it; and the last
pub concatenated_turn : (r n m : ℕ) → n ≡ m + 1 → expr (concatenated r n) ≡ 9 ∷ 7 ∷ 1 ∷ r ∷ expr (concatenated (r + 1) m)
unfolding concatenated expr
concatenated_turn r n m e =
    let more : n ≡ suc m = omega arith in
    rw more

pub concatenated_done : (r n s : ℕ) → n ≡ 0 → s ≡ r → expr (concatenated r n) ≡ 1 ∷ s ∷ []
unfolding concatenated expr
concatenated_done r n s e is = rw (e, is)
