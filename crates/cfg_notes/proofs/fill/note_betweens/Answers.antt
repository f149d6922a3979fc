-- `fill::note_betweens`: the next number is that of the next between block. Assumes nothing.
use Prim.Native.Nat.{ℕ, ◌+◌, ◌<◌, ◌≤◌}
use native.Mathlib.Omega.{arith}
use mathlib.Core.Bool.{true, false}
use mathlib.Core.Path.{◌≡◌, refl, ◌∙◌, sym, ap}
use lib.ListN.{length}
use lib.Seq.{get_or-set_other}
use Rattle.lua51_instruction.specs.Proto.{Proto, size}
use Rattle.cfg.proofs.Diverting.{diverted_by_lem}
use Rattle.cfg_notes.specs.Notes.{start_note, notes_by, nothing, no_note, note_in}
use Rattle.basics.proofs.Tables.{row_more, rows_by, rows_at}
use Rattle.cfg_notes.proofs.Rows.{started, numbered, started_length, number_put}
use Rattle.cfg_notes.proofs.Numbering.{between_first, between_noted, between_more}
use Rattle.cfg_notes.proofs.fill.note_betweens.Goals.{then-is_diverted, else-is_diverted}
use Rattle.cfg_notes.proofs.fill.note_betweens.Goals as goal

pub loop-i-init : goal.loop-i-init
loop-i-init c = (
  omega arith,
  λ p e k f ns. (
    f ∙ sym (between_first p),
    λ j h. absurd (omega arith),
    λ j h le. rw ns (rows_at (started p) no_note (size p + 1) j (omega arith)),
  ),
)

pub loop-i-preserved : goal.loop-i-preserved
loop-i-preserved c =
    let l = c.loop-i in
    let room : l.i < length l.notes = omega arith in
    let here = λ (p : Proto) (left : (k : ℕ) → l.i ≤ k → k ≤ size p → note_in l.notes k ≡ started p k) (ns : c.args.notes.now ≡ notes_by (start_note p) nothing nothing (size p + 1)).
    left l.i (omega arith) (omega (arith, started_length p c.args.notes.now ns)) in
    elim c.if-is_diverted.branch [
      | then-is_diverted w ↦ (
        omega (arith, w.next-is),
        λ p e k f ns.
            let old = l.invariant.1 p e k f ns in
            let is = sym w.if-is_diverted.true ∙ (c.is_diverted.ensures p e ∙ diverted_by_lem p l.i _ k) in
            let v = between_noted p l.i l.next l.next true is refl old.0 in (
              rw w.next-is (between_more p l.i l.next l.next true is refl old.0),
              rw w.notes-is (row_more (numbered p) no_note l.notes l.i _ (number_put p l.i l.next v (here p old.2 ns)) room old.1),
              λ j h le. rw w.notes-is (get_or-set_other l.notes l.i j _ no_note (λ e. omega arith) ∙ old.2 j (omega arith) le),
            ),
      )
      | else-is_diverted w ↦ (
        omega (arith, w.next-is),
        λ p e k f ns.
            let old = l.invariant.1 p e k f ns in
            let is = sym w.if-is_diverted.false ∙ (c.is_diverted.ensures p e ∙ diverted_by_lem p l.i _ k) in
            let v = between_noted p l.i 0 l.next false is refl old.0 in (
              rw w.next-is (omega (arith, between_more p l.i 0 l.next false is refl old.0)),
              rw w.notes-is (row_more (numbered p) no_note l.notes l.i _ (here p old.2 ns ∙ ap (λ (b : ℕ). record { start = start_note p l.i; between = b; front = 0 }) v) room old.1),
              λ j h le. rw w.notes-is (get_or-set_other l.notes l.i j _ no_note (λ e. omega arith) ∙ old.2 j (omega arith) le),
            ),
      )
    ]

pub returns : goal.returns
returns c =
    let l = c.loop-i in
    λ p e k f ns.
    let long : length l.notes ≡ size p + 1 = omega (arith, started_length p c.args.notes.now ns) in
    rows_by (numbered p) no_note l.notes (size p + 1) long (λ j h. (l.invariant.1 p e k f ns).1 j (omega arith))
