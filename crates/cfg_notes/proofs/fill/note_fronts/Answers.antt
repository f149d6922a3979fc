-- `fill::note_fronts`: after i words each front is that of the first i words. Assumes nothing.
use Prim.Native.Nat.{◌+◌}
use native.Mathlib.Omega.{arith}
use mathlib.Core.Path.{◌≡◌, ◌∙◌}
use Rattle.lua51_instruction.specs.Proto.{size}
use Rattle.cfg_notes.specs.Notes.{start_note, between_note, front_among, notes_of}
use Rattle.cfg_notes.proofs.Fronts.{front_turn}
use Rattle.cfg_notes.proofs.fill.note_fronts.Goals as goal

pub loop-i-init : goal.loop-i-init
unfolding front_among
loop-i-init c = λ p e k ns. ns

pub loop-i-preserved : goal.loop-i-preserved
loop-i-preserved c =
    let l = c.loop-i in
    λ p e k ns. c.note_front.ensures p e k ∙ rw (l.invariant p e k ns) (front_turn p (start_note p) (between_note p) (size p + 1) l.i)

pub returns : goal.returns
unfolding notes_of
returns c =
    let l = c.loop-i in
    λ p e k ns.
    let all : l.i ≡ size p = rw e (omega arith) in
    rw all at (l.invariant p e k ns)
