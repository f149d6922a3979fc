-- `fill::note_starts`: the next number is 1 more than that of the next block. Assumes nothing.
use Prim.Native.Nat.{ℕ, ◌+◌, ◌<◌, ◌≤◌}
use mathlib.Core.Path.{◌≡◌}
use Rattle.lua51_instruction.specs.Proto.{Proto}
use Rattle.cfg.specs.Graph.{block_of}
use Rattle.cfg.specs.Arrays.{leaders}
use Rattle.cfg_notes.specs.Notes.{note_in}
use Rattle.cfg_notes.proofs.Rows.{started}
use Rattle.cfg_notes.proofs.fill.note_starts.Given as goal

abbrev pub invariant-loop-j : goal.invariant-loop-j
invariant-loop-j l =
    (l.next ≤ l.j + 1)
    × ((p : Proto) → l.marks ≡ leaders p
    → (l.next ≡ block_of p l.j + 1) × ((k : ℕ) → k < l.j → note_in l.notes k ≡ started p k))
