-- `fill::note_fronts`: after i words each front is that of the first i words. Assumes nothing.
use Prim.Native.Nat.{◌+◌}
use mathlib.Core.Path.{◌≡◌}
use Rattle.lua51_instruction.specs.Proto.{Proto, size}
use Rattle.cfg.specs.Arrays.{entrances}
use Rattle.cfg_notes.specs.Notes.{start_note, between_note, front_among, notes_by, nothing}
use Rattle.cfg_notes.proofs.fill.note_fronts.Given as goal

abbrev pub invariant-loop-i : goal.invariant-loop-i
invariant-loop-i l =
    (p : Proto) → p.words ≡ l.entered.words.now → l.entered.counts.now ≡ entrances p
    → l.initial.notes ≡ notes_by (start_note p) (between_note p) nothing (size p + 1)
    → l.notes ≡ notes_by (start_note p) (between_note p) (λ t. front_among p t l.i) (size p + 1)
