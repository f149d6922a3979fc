-- `marks::mark_leaders`: after i words the marks are those that the first i words make. Assumes nothing.
use Prim.Native.Nat.{◌<◌}
use native.Mathlib.Omega.{arith}
use mathlib.Core.Path.{◌≡◌, ◌∙◌, sym}
use lib.ListN.{length}
use Rattle.lua51_instruction.specs.Proto.{size}
use Rattle.cfg.specs.Arrays.{mark}
use Rattle.cfg.proofs.Tables.{started_at}
use Rattle.basics.proofs.Tables.{tabled}
use Rattle.cfg.proofs.Claims.{leads_none, leads_all, marks_turn}
use Rattle.cfg.proofs.marks.mark_leaders.Goals as goal

pub loop-i-init : goal.loop-i-init
loop-i-init c =
    λ p e j lt.
    started_at (length c.args.marks.now) j c.fill.new.self c.put_mark.new.marks (c.fill.ensures.after (λ y z. z)) c.put_mark.ensures
    (omega (arith, c.put_mark.auto.marks, c.fill.auto.self))
    ∙ sym (leads_none p j)

pub loop-i-preserved : goal.loop-i-preserved
loop-i-preserved c =
    let l = c.loop-i in
    λ p e j lt.
    let inside : j < length l.marks = omega (arith, c.put_claims.auto.marks) in
    rw (c.put_claims.ensures, c.claims_at.ensures p e) (marks_turn p l.i j l.marks inside (l.invariant p e j inside))

pub returns : goal.returns
returns c =
    let l = c.loop-i in
    let a = c.args in
    λ p e. tabled (mark p) l.marks (length a.marks.now) (omega (arith, c.put_mark.auto.marks, c.fill.auto.self)) (λ j lt.
    let all : l.i ≡ size p = rw e (omega arith) in
    rw all at (l.invariant p e j lt) ∙ sym (leads_all p j))
