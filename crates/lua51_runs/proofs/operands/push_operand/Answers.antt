-- `push_operand` meets its contract: what the operand stands for decides the kind. Assumes nothing.
use mathlib.Core.Path.{◌∙◌}
use mathlib.Core.Path.{ap}
use Rattle.lua51_runs.proofs.Leaves.{leaf_of, leaf_of_lem}
use Rattle.lua51_runs.proofs.operands.push_operand.Goals as goal

pub returns-in-Register : goal.returns-in-Register
returns-in-Register c =
    let is = leaf_of_lem c.args.x c.register_or_constant.result c.register_or_constant.ensures ∙ ap leaf_of c.in-Register.is in
    rw is (rw c.from.ensures at c.push_all.ensures)

pub returns-in-Constant : goal.returns-in-Constant
returns-in-Constant c =
    let is = leaf_of_lem c.args.x c.register_or_constant.result c.register_or_constant.ensures ∙ ap leaf_of c.in-Constant.is in
    rw is (rw c.from-in-Constant.ensures at c.push_all-in-Constant.ensures)
