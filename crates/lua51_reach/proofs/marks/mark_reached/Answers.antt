-- `marks::mark_reached`: a word is marked where one of the words so far leads to it. Assumes nothing.
use Prim.Native.Nat.{◌<◌}
use native.Mathlib.Omega.{arith}
use mathlib.Core.Path.{◌≡◌, ap, ◌∙◌}
use lib.ListN.{length}
use Rattle.std.proofs.lemmas.List.{get_or-replicate}
use Rattle.lua51_instruction.specs.Proto.{size}
use Rattle.basics.proofs.Tables.{tabled}
use Rattle.lua51_reach.specs.Targets.{reach_of, reached_mark}
use Rattle.lua51_reach.proofs.Marking.{reached_none, reached_more, reached_all}
use Rattle.lua51_reach.proofs.marks.mark_reached.Goals as goal

pub loop-i-init : goal.loop-i-init
loop-i-init c =
    let n = length c.args.marks.now in
    λ p e j l. rw (c.fill.ensures.after (λ y z. z)) (get_or-replicate n j 0 0 (omega (arith, c.fill.auto.self)) ∙ reached_none p j)

pub loop-i-preserved : goal.loop-i-preserved
loop-i-preserved c =
    let l = c.loop-i in
    λ p e j g.
    let inside : j < length l.marks = omega (arith, c.mark.auto.marks) in
    rw c.mark.ensures
    (reached_more p j l.i c.reach_of.result (c.reach_of.ensures p e ∙ ap (reach_of p l.i) (cc)) l.marks inside
    (l.invariant p e j inside))

pub returns : goal.returns
returns c =
    let l = c.loop-i in
    λ p e. tabled (reached_mark p) l.marks (length c.args.marks.now) (omega (arith, c.fill.auto.self)) (λ j lt.
    let n : l.i ≡ size p = omega (arith, ap length e) in
    rw n at (l.invariant p e j lt) ∙ reached_all p j)
