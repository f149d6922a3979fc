-- What the notes say at a word, and the marks and counts that they are filled from. Assumes nothing.
use native.Mathlib.Numerals.{add-one}
use Rattle.std.specs.Prelude.{Some, None}
use Prim.Native.Nat.{ℕ, zero, suc, ◌+◌, ◌≤◌, ◌<◌, min}
use native.Mathlib.Omega.{arith}
use mathlib.Core.Bool.{Bool, true, false, cond}
use mathlib.Core.List.{List}
use mathlib.Core.Path.{◌≡◌, ◌∙◌, refl}
use lib.ListN.{length}
use Rattle.basics.specs.Range.{table}
use Rattle.basics.proofs.Range.{over_length}
use Rattle.basics.proofs.Tests.{either_way}
use Rattle.lua51_instruction.specs.Proto.{Proto, size}
use Rattle.cfg.specs.Graph.{leader, block_of, entry_of, diverted, between_of}
use Rattle.cfg.specs.Arrays.{mark, leaders, more, entering_by, entrances}
use Rattle.cfg.proofs.Counts.{counts_by}
use Rattle.cfg_notes.specs.Notes.{front_note, notes_of, no_note, note_in, noted, one_less}
use Rattle.cfg_notes.specs.declared.notes.Note.{Note}
use Rattle.basics.proofs.Tables.{rows_at}
use Rattle.cfg_notes.proofs.Rows.{note_of}
use Rattle.cfg_notes.proofs.Numbering.{block_next}

-- a value is given, and so the test holds and the value is that; none is, and it does not
pub given : (b : Bool) {x v : ℕ} → Some x ≡ cond b (Some v) None → (b ≡ true) × (x ≡ v)
given true e = (refl, cc)
given false e = cc

pub ungiven : (b : Bool) (v : ℕ) → None ≡ cond b (Some v) None → b ≡ false
ungiven true v e = cc
ungiven false v e = refl

-- a note above 0 is read as it stands
noted_some : (v : ℕ) → 0 < v → noted v ≡ Some v
noted_some zero h = absurd (omega arith)
noted_some (suc v) h = refl

-- a between block's number is above 0
between_above : (p : Proto) (i : ℕ) → 0 < between_of p i
unfolding between_of
between_above p i = omega arith

module _ (p : Proto) where
  pub notes_length : length (notes_of p) ≡ size p + 1
  unfolding notes_of
  notes_length = over_length (note_of p) 0 (size p + 1)

  -- ------------------------------------------------------------ what is noted at a word

  module _ (ns : List Note) (e : ns ≡ notes_of p) where
    pub noted_at : (j : ℕ) → j ≤ size p → note_in ns j ≡ note_of p j
    unfolding notes_of
    noted_at j le = rw e (rows_at (note_of p) no_note (size p + 1) j (omega arith))

    -- what is read there as an Option: 1 more than the block's number, the block's number, the between block's, the word before
    pub start_said : (j : ℕ) → j ≤ size p → noted (note_in ns j).start ≡ cond (leader p j) (Some (block_of p j + 1)) None
    start_said j le = rw (noted_at j le) (either_way (leader p j) (λ t. rw (t, add-one (block_of p j))) (λ t. rw t))

    pub block_said : (j : ℕ) → j ≤ size p → one_less (note_in ns j).start ≡ cond (leader p j) (Some (block_of p j)) None
    block_said j le = rw (noted_at j le) (either_way (leader p j) (λ t. rw (t, add-one (block_of p j))) (λ t. rw t))

    pub between_said : (i : ℕ) → i ≤ size p → noted (note_in ns i).between ≡ cond (diverted p i) (Some (between_of p i)) None
    between_said i le = rw (noted_at i le) (either_way (diverted p i)
        (λ t. rw t (noted_some (between_of p i) (between_above p i)))
        (λ t. rw t))

    pub front_said : (t : ℕ) → t ≤ size p → one_less (note_in ns t).front ≡ one_less (front_note p t)
    front_said t le = rw (noted_at t le)

    -- the block at n is the last code block, and the entry follows it
    pub entry_said : leader p (size p) ≡ true → noted (note_in ns (size p)).start ≡ Some (entry_of p)
    entry_said t =
        let next : block_of p (size p) + 1 ≡ entry_of p = omega (arith, rw t at (block_next p (size p))) in
        start_said (size p) (omega arith) ∙ rw (t, next)

  -- ------------------------------------------------------------ marks and counts

  -- n + 1 marks are the function's
  pub marks_whole : (a : List ℕ) (m : ℕ) → a ≡ table (mark p) m → m ≡ size p + 1 → a ≡ leaders p
  marks_whole a m e h = rw h at e

  -- n + 1 counts by its marks are the function's
  pub counts_whole : (marks a : List ℕ) (m : ℕ) → marks ≡ leaders p → a ≡ table (λ t. min (entering_by p marks t) more) m → m ≡ size p + 1 → a ≡ entrances p
  counts_whole marks a m leads e h = rw h at (e ∙ counts_by p marks leads m)
