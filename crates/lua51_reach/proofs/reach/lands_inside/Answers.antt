-- `reach::lands_inside`: a target or skip that is not outside. Assumes nothing.
use mathlib.Core.Path.{sym, ◌∙◌, ap}
use Rattle.lua51_instruction.specs.Instruction.{flow_meant}
use Rattle.lua51_reach.proofs.Reaching.{inside, not_outside, lands_by}
use Rattle.lua51_reach.proofs.reach.lands_inside.Goals.{in-Outside, in_default}
use Rattle.lua51_reach.proofs.reach.lands_inside.Goals as goal

pub returns : goal.returns
returns c =
    let a = c.args in
    λ p e.
    let by = ap inside (c.reach_of.ensures p e) ∙ sym (lands_by p a.i (flow_meant a.flow)) in
    elim c.match-matches.branch [
      | in-Outside w ↦ rw w.matches-is (rw w.in-Outside.is at by)
      | in_default w ↦ rw w.matches-is (not_outside c.reach_of.result w.in_default.not-Outside ∙ by)
    ]
