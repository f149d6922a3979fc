-- `fill::note_betweens`: the next number is that of the next between block. Assumes nothing.
use Prim.Native.Nat.{ℕ, ◌+◌, ◌<◌, ◌≤◌}
use mathlib.Core.Path.{◌≡◌}
use Rattle.lua51_instruction.specs.Proto.{Proto, size}
use Rattle.cfg.specs.Graph.{entry_of, between_of}
use Rattle.cfg.specs.Arrays.{entrances}
use Rattle.cfg_notes.specs.Notes.{start_note, notes_by, nothing, note_in}
use Rattle.cfg_notes.proofs.Rows.{started, numbered}
use Rattle.cfg_notes.proofs.fill.note_betweens.Given as goal

abbrev pub invariant-loop-i : goal.invariant-loop-i
invariant-loop-i l =
    (l.next ≤ l.first + l.i)
    × ((p : Proto) → p.words ≡ l.entered.words.now → l.entered.counts.now ≡ entrances p → l.first ≡ entry_of p + 1
    → l.initial.notes ≡ notes_by (start_note p) nothing nothing (size p + 1)
    → (l.next ≡ between_of p l.i)
    × ((k : ℕ) → k < l.i → note_in l.notes k ≡ numbered p k)
    × ((k : ℕ) → l.i ≤ k → k ≤ size p → note_in l.notes k ≡ started p k))
