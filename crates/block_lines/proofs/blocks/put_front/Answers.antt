-- `put_front`: what is noted is what is printed. Assumes nothing.
use mathlib.Core.List.{flat_map}
use mathlib.Core.Path.{refl}
use Rattle.lines.proofs.Puts.{puts_nothing, puts_prints, prints_nothing}
use Rattle.block_lines.proofs.Fronts.{front_none, front_some, function_of_lem}
use Rattle.block_lines.proofs.blocks.put_front.Goals as goal

pub returns-in_default-clause-result_after : goal.returns-in_default-clause-result_after
unfolding flat_map
returns-in_default-clause-result_after c =
    let a = c.args in
    λ p ok le. rw (front_none p a.drawn.now.notes.now ok.notes a.t le c.front_at.ensures c.in_default.is) (puts_nothing a.out.now)

pub returns-in_default-clause-anyway : goal.returns-in_default-clause-anyway
returns-in_default-clause-anyway c = prints_nothing c.args.out.now

pub returns-in-Some-clause-result_after : goal.returns-in-Some-clause-result_after
returns-in-Some-clause-result_after c =
    let a = c.args in
    λ p ok le.
    rw (front_some p a.drawn.now.notes.now ok.notes a.t le c.front_at.ensures c.in-Some.i c.in-Some.is)
    (c.put_on_then.ensures p ok.words)

pub returns-in-Some-clause-anyway : goal.returns-in-Some-clause-anyway
returns-in-Some-clause-anyway c = puts_prints (c.put_on_then.ensures (function_of_lem c.args.drawn.now.function.words.now) refl)
