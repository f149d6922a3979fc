-- What a printer needs of a function's graph, noted once at each word from 0 to n.
use Rattle.std.specs.Prelude.{ℕ, zero, suc, ◌+◌, Option, Some, None, Bool, not, cond, ◌&&◌, ◌||◌, List, eqb, get_or}
use Rattle.basics.specs.Range.{over, only}
use Rattle.lua51_instruction.specs.Word.{TESTSET}
use Rattle.lua51_instruction.specs.Proto.{Proto, size, is}
use Rattle.cfg.specs.Graph.{leader, block_of, is_loop, then_of, diverted, between_of}
use Rattle.cfg_notes.specs.declared.notes.Note.{Note}

-- ------------------------------------------------------------ the notes of a word

-- 1 more than the number of the block whose range starts at word j; 0 where none does
abbrev pub start_note : Proto → ℕ → ℕ
start_note p j = cond (leader p j) (block_of p j + 1) 0

-- the number of the between block of the loop at word i; 0 where it has none. No between block has the number 0
abbrev pub between_note : Proto → ℕ → ℕ
between_note p i = cond (diverted p i) (between_of p i) 0

-- whether the assignment on the Then edge of word i stands at the front of the block that the edge goes to: 'TESTSET puts its
-- assignment at the front of the next word's block'; a loop's 'goes to the front of the Then block if only one edge enters that
-- block', and so where it is not diverted
abbrev pub fronted : Proto → ℕ → Bool
fronted p i = is p i TESTSET || (is_loop p i && not (diverted p i))

-- 1 more than the word, of the first k, whose assignment stands at the front of the block that starts at word t; 0 where none
-- does. No two do
unfoldable pub front_among : Proto → ℕ → ℕ → ℕ
front_among p t zero = 0
front_among p t (suc k) = cond (fronted p k && eqb (then_of p k) t) (suc k) (front_among p t k)

abbrev pub front_note : Proto → ℕ → ℕ
front_note p t = front_among p t (size p)

-- ------------------------------------------------------------ the array

-- notes of n words by three functions that give what is noted at each: the block that starts, the between block, the front
abbrev pub notes_by : (ℕ → ℕ) → (ℕ → ℕ) → (ℕ → ℕ) → ℕ → List Note
notes_by starts betweens fronts n = over (λ j. only (record { start = starts j; between = betweens j; front = fronts j })) 0 n

-- nothing is noted at any word
abbrev pub nothing : ℕ → ℕ
nothing j = 0

-- the notes of a function, at the words from 0 to n
unfoldable pub notes_of : Proto → List Note
notes_of p = notes_by (start_note p) (between_note p) (front_note p) (size p + 1)

-- the note of a word of which nothing is noted
abbrev pub no_note : Note
no_note = record { start = 0; between = 0; front = 0 }

-- note j of some; behind the last nothing is noted
abbrev pub note_in : List Note → ℕ → Note
note_in ns j = get_or ns j no_note

-- whether a block starts where the note stands
abbrev pub starts_some : Note → Bool
starts_some n = not (eqb n.start 0)

-- the number that a note is; none where it is 0
abbrev pub noted : ℕ → Option ℕ
noted zero = None
noted (suc n) = Some (suc n)

-- the number that a note is 1 more than; none where it is 0
abbrev pub one_less : ℕ → Option ℕ
one_less zero = None
one_less (suc n) = Some n
