-- The note of a word, and how far it says so while the notes are filled. Assumes nothing.
use Prim.Native.Nat.{ℕ, ◌+◌}
use mathlib.Core.List.{List}
use mathlib.Core.Path.{◌≡◌}
use lib.ListN.{length}
use Rattle.basics.proofs.Range.{over_length}
use Rattle.lua51_instruction.specs.Proto.{Proto, size}
use Rattle.cfg_notes.specs.Notes.{start_note, between_note, front_note, notes_by, nothing}
use Rattle.cfg_notes.specs.declared.notes.Note.{Note}

-- the note of word j
abbrev pub note_of : Proto → ℕ → Note
note_of p j = record { start = start_note p j; between = between_note p j; front = front_note p j }

-- the note that only says a start
abbrev pub only_start : ℕ → Note
only_start v = record { start = v; between = 0; front = 0 }

-- that of word j once the starts are noted, and once the between blocks are too
abbrev pub started : Proto → ℕ → Note
started p j = only_start (start_note p j)

abbrev pub numbered : Proto → ℕ → Note
numbered p j = record { start = start_note p j; between = between_note p j; front = 0 }

pub started_length : (p : Proto) (ns : List Note) → ns ≡ notes_by (start_note p) nothing nothing (size p + 1) → length ns ≡ size p + 1
started_length p ns e = rw e (over_length (started p) 0 (size p + 1))

-- a between block's number is put beside the start
pub number_put : (p : Proto) (i v : ℕ) → v ≡ between_note p i → {n : Note} → n ≡ started p i
    → ◌≡◌ {A = Note} (record n { between = v }) (numbered p i)
number_put p i v e h = λ j. record { start = (h j).start; between = e j; front = (h j).front }
