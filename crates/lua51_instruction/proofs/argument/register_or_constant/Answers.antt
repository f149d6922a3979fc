-- `argument::register_or_constant`: the test is the definition's. Assumes nothing.
use native.Mathlib.Omega.{arith}
use borrow.Author.Tests.{lt-ltb, le-ltb}
use Rattle.lua51_instruction.proofs.argument.register_or_constant.Goals as goal

pub returns-then-x-lt-FIRST_CONSTANT : goal.returns-then-x-lt-FIRST_CONSTANT
returns-then-x-lt-FIRST_CONSTANT c = rw (le-ltb 255 c.args.x (omega arith))

pub returns : goal.returns
returns c = rw (lt-ltb 255 c.args.x (omega arith))
