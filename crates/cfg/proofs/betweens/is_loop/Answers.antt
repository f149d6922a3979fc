-- `betweens::is_loop`: the two flows of loops. Assumes nothing.
use mathlib.Core.Path.{◌∙◌}
use Rattle.lua51_instruction.specs.Instruction.{flow_meant}
use Rattle.cfg.proofs.Diverting.{no_loop, some_loop, loop_by}
use Rattle.cfg.proofs.betweens.is_loop.Goals as goal

pub returns-in-NumericLoop : goal.returns-in-NumericLoop
returns-in-NumericLoop c = λ p i e. some_loop c.flow_of.result c.in-NumericLoop.is
    ∙ loop_by p i c.args.word (flow_meant c.flow_of.result) e c.flow_of.ensures

pub returns-in_default : goal.returns-in_default
returns-in_default c = λ p i e. no_loop c.flow_of.result c.in_default.not-NumericLoop c.in_default.not-GenericLoop
    ∙ loop_by p i c.args.word (flow_meant c.flow_of.result) e c.flow_of.ensures
