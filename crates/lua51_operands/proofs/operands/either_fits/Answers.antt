-- `operands::either_fits`: the two readings of an operand. Assumes nothing.
use mathlib.Core.Path.{sym, ◌∙◌}
use Rattle.lua51_operands.proofs.Fitting.{register_fits, constant_fits}
use Rattle.lua51_operands.proofs.operands.either_fits.Goals as goal

pub returns-in-Register : goal.returns-in-Register
returns-in-Register c =
    let a = c.args in
    cc (register_fits a.x c.in-Register.register a.stack a.constants (sym c.in-Register.is ∙ c.register_or_constant.ensures))

pub returns-in-Constant : goal.returns-in-Constant
returns-in-Constant c =
    let a = c.args in
    cc (constant_fits a.x c.in-Constant.constant a.stack a.constants (sym c.in-Constant.is ∙ c.register_or_constant.ensures))
