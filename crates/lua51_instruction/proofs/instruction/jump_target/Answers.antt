-- `instruction::jump_target`: the sum is that of the definition, and is tested and cast as it stands. Assumes nothing.
use Prim.Native.Nat.{◌<◌, ◌+◌, min}
use native.Mathlib.Omega.{arith}
use mathlib.Core.Path.{◌≡◌}
use lib.IntN.{pos, ◌+ℤ◌}
use lib.Signed.{mag}
use mir.Syntax.{w32}
use mir.Val.{to_z, of_z}
use mir.ValLaws.{to_z_pos}
use Rattle.lua51_instruction.specs.Jump.{s_bx, largest_i32}
use Rattle.lua51_instruction.proofs.Signed.{back}
use Rattle.lua51_instruction.proofs.Targets.{s_bx_small, sum, sum_small, below_0, from_n, inside, castable, by_sum, too_far}
use Rattle.lua51_instruction.proofs.instruction.jump_target.Goals.{Else-i-gt-LAST_JUMP, After-sbx_of}
use Rattle.lua51_instruction.proofs.instruction.jump_target.Goals as goal

-- ------------------------------------------------------------ the sum

one : (c : Else-i-gt-LAST_JUMP) → to_z w32 c.args.i +ℤ pos 1 ≡ pos (c.args.i + 1)
one c = rw (to_z_pos w32 c.args.i (omega arith))

sum_is : (c : After-sbx_of)
    → to_z w32 (of_z w32 (to_z w32 c.args.i +ℤ pos 1)) +ℤ to_z w32 (of_z w32 c.sbx_of.result) ≡ sum c.args.i c.args.word
sum_is c =
    let a = c.args in
    rw (one c.before, c.sbx_of.ensures, back (pos (a.i + 1)) (omega arith), back (s_bx a.word) (s_bx_small a.word))

small : (c : After-sbx_of) → mag (sum c.args.i c.args.word) < largest_i32
small c = sum_small c.args.i c.args.word c.if-i-gt-LAST_JUMP.false

target_is : (c : After-sbx_of)
    → to_z w32 (of_z w32 (to_z w32 (of_z w32 (to_z w32 c.args.i +ℤ pos 1)) +ℤ to_z w32 (of_z w32 c.sbx_of.result)))
    ≡ sum c.args.i c.args.word
target_is c = rw (sum_is c) (back (sum c.args.i c.args.word) (omega (arith, small c)))

-- ------------------------------------------------------------ needs

pub returns-then-i-gt-LAST_JUMP : goal.returns-then-i-gt-LAST_JUMP
returns-then-i-gt-LAST_JUMP c = too_far c.args.i c.args.n c.args.word c.if-i-gt-LAST_JUMP.true

pub overflow_add-target : goal.overflow_add-target
overflow_add-target c = rw (one c) (record { sfits = omega arith })

pub overflow_add-target-2 : goal.overflow_add-target-2
overflow_add-target-2 c = rw (sum_is c) (record { sfits = omega (arith, small c) })

pub returns-then-target-lt0 : goal.returns-then-target-lt0
returns-then-target-lt0 c =
    let k = c.before in
    let a = c.args in
    by_sum a.i a.n a.word c.if-i-gt-LAST_JUMP.false (below_0 a.n (sum a.i a.word) (rw (target_is k) at c.if-target-lt0.true))

pub returns-then-signed-target : goal.returns-then-signed-target
returns-then-signed-target c =
    let k = c.before.before.before in
    let a = c.args in
    let least = back (pos (min a.n largest_i32)) (omega arith) in
    let from = rw (target_is k, c.signed.ensures, least) at c.if-signed-target.true in
    by_sum a.i a.n a.word c.if-i-gt-LAST_JUMP.false (from_n a.n (sum a.i a.word) (small k) from)

pub overflow_cast-result : goal.overflow_cast-result
overflow_cast-result c =
    let k = c.before.before.before in
    let a = c.args in
    rw (target_is k) (castable (sum a.i a.word) (rw (target_is k) at c.if-target-lt0.false) (small k))

pub returns : goal.returns
returns c =
    let k = c.before.before.before in
    let a = c.args in
    let least = back (pos (min a.n largest_i32)) (omega arith) in
    let natural = rw (target_is k) at c.if-target-lt0.false in
    let below = rw (target_is k, c.signed.ensures, least) at c.if-signed-target.false in
    by_sum a.i a.n a.word c.if-i-gt-LAST_JUMP.false (rw (target_is k) (inside a.n (sum a.i a.word) natural below))
