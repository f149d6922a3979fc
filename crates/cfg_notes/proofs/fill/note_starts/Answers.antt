-- `fill::note_starts`: the next number is 1 more than that of the next block. Assumes nothing.
use Prim.Native.Nat.{◌+◌, ◌<◌}
use native.Mathlib.Omega.{arith}
use mathlib.Core.Bool.{true, false}
use mathlib.Core.Path.{◌≡◌, ◌∙◌, sym, refl, ap}
use lib.ListN.{length}
use Rattle.lua51_instruction.specs.Proto.{size}
use Rattle.cfg.proofs.Numbering.{marks_length}
use Rattle.cfg_notes.specs.Notes.{no_note}
use Rattle.basics.proofs.Tables.{row_more, rows_by}
use Rattle.cfg_notes.proofs.Rows.{started, only_start}
use Rattle.cfg_notes.proofs.Numbering.{block_first, start_noted, start_next}
use Rattle.cfg_notes.proofs.fill.note_starts.Goals.{then-marked, else-marked}
use Rattle.cfg_notes.proofs.fill.note_starts.Goals as goal

pub loop-j-init : goal.loop-j-init
loop-j-init c = (omega arith, λ p e. (omega (arith, block_first p), λ k h. absurd (omega arith)))

pub loop-j-preserved : goal.loop-j-preserved
loop-j-preserved c =
    let l = c.loop-j in
    let marks = c.args.marks.now in
    let inside : l.j < length marks = omega (arith, c.requires) in
    let room : l.j < length l.notes = omega arith in
    elim c.if-marked.branch [
      | then-marked w ↦ (
        omega (arith, w.next-is),
        λ p e.
            let old = l.invariant.1 p e in
            let is = sym w.if-marked.true ∙ c.marked.ensures in
            let v = start_noted p marks e l.j l.next l.next true inside is refl old.0 in (
              rw w.next-is (start_next p marks e l.j l.next l.next true inside is refl old.0),
              rw w.notes-is (row_more (started p) no_note l.notes l.j (only_start l.next) (ap only_start v) room old.1),
            ),
      )
      | else-marked w ↦ (
        omega (arith, w.next-is),
        λ p e.
            let old = l.invariant.1 p e in
            let is = sym w.if-marked.false ∙ c.marked.ensures in
            let v = start_noted p marks e l.j 0 l.next false inside is refl old.0 in (
              rw w.next-is (omega (arith, start_next p marks e l.j 0 l.next false inside is refl old.0)),
              rw w.notes-is (row_more (started p) no_note l.notes l.j no_note (ap only_start v) room old.1),
            ),
      )
    ]

pub returns-clause-starts_after : goal.returns-clause-starts_after
returns-clause-starts_after c =
    let l = c.loop-j in
    λ p e.
    let long : length l.notes ≡ size p + 1 = omega (arith, c.requires, marks_length p c.args.marks.now e) in
    let all : l.j ≡ size p + 1 = omega arith in (
      rows_by (started p) no_note l.notes (size p + 1) long (λ k h. (l.invariant.1 p e).1 k (omega arith)),
      rw all at (l.invariant.1 p e).0,
    )
