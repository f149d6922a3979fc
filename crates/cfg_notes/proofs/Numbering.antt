-- Blocks and between blocks numbered word by word, and the ends of ranges. Assumes nothing.
use Prim.Native.Nat.{ℕ, zero, suc, ◌+◌, ◌-◌, ◌<◌}
use native.Mathlib.Omega.{arith}
use mathlib.Core.Bool.{Bool, false, not, cond}
use mathlib.Core.List.{List}
use mathlib.Core.Path.{◌≡◌, refl, ◌∙◌, sym}
use lib.Dec.{eqb, ltb}
use lib.ListN.{length, get_or, take, drop, length-drop}
use lib.Seq.{drop_at}
use borrow.Author.Tests.{ne_eqb, ltb-false}
use Rattle.std.specs.List.{position_or_len}
use Rattle.std.proofs.lemmas.List.{take_all}
use Rattle.std.proofs.lemmas.List.Sums.{prefix_len-le-length}
use Rattle.basics.specs.Range.{sum, over, only}
use Rattle.basics.proofs.Range.{over_split, over_length}
use Rattle.basics.proofs.Tables.{sum_more}
use Rattle.basics.proofs.Tests.{either_way}
use Rattle.lua51_instruction.specs.Proto.{Proto, size}
use Rattle.cfg.specs.Graph.{leader, leader_from, block_of, entry_of, past, diverted, between_of}
use Rattle.cfg.specs.Arrays.{bit, leaders}
use Rattle.cfg.proofs.Leaders.{past_end}
use Rattle.cfg.proofs.Numbering.{mark_leads}
use Rattle.cfg_notes.specs.Notes.{start_note, between_note, notes_of, starts_some}
use Rattle.cfg_notes.specs.declared.notes.Note.{Note}
use Rattle.cfg_notes.proofs.Rows.{note_of}

module _ (p : Proto) where
  -- ------------------------------------------------------------ numbers

  pub block_next : (j : ℕ) → block_of p (j + 1) ≡ block_of p j + bit (leader p j)
  unfolding block_of
  block_next j = sum_more (λ i. bit (leader p i)) j

  pub block_first : block_of p 0 ≡ 0
  unfolding block_of sum
  block_first = refl

  pub between_next : (i : ℕ) → between_of p (i + 1) ≡ between_of p i + bit (diverted p i)
  unfolding between_of
  between_next i = omega (arith, sum_more (λ j. bit (diverted p j)) i)

  pub between_first : between_of p 0 ≡ entry_of p + 1
  unfolding between_of sum
  between_first = omega arith

  -- ------------------------------------------------------------ one word more

  -- v is noted at word j, where the next block has the number before `next`
  module _ (marks : List ℕ) (e : marks ≡ leaders p) (j v next : ℕ) (s : Bool) (lt : j < length marks)
      (is : s ≡ eqb (get_or marks j 0) 1) (note : v ≡ cond s next 0) (here : next ≡ block_of p j + 1) where
    led : s ≡ leader p j
    led = is ∙ mark_leads p marks e j lt

    pub start_noted : v ≡ start_note p j
    start_noted = note ∙ rw (led, here)

    pub start_next : next + bit s ≡ block_of p (j + 1) + 1
    start_next = rw (led, here) (omega (arith, block_next j))

  -- v is noted at word i, where the next between block has the number `next`
  module _ (i v next : ℕ) (d : Bool) (is : d ≡ diverted p i) (note : v ≡ cond d next 0) (here : next ≡ between_of p i) where
    pub between_noted : v ≡ between_note p i
    between_noted = note ∙ rw (is, here)

    pub between_more : next + bit d ≡ between_of p (i + 1)
    between_more = rw (is, here) (sym (between_next i))

  -- ------------------------------------------------------------ the ends of ranges

  -- a block starts where a word's note says so
  note_starts : (j : ℕ) → starts_some (note_of p j) ≡ leader p j
  note_starts j = either_way (leader p j)
      (λ t. rw (t, ne_eqb (block_of p j + 1) 0 (λ e. omega arith)))
      (λ t. rw t)

  abbrev notes_from : ℕ → ℕ → List Note
  notes_from j k = over (λ i. only (note_of p i)) j k

  -- the first leader of k words from j on, by their notes
  first_from : (k j : ℕ) → leader_from p k j ≡ j + position_or_len starts_some (notes_from j k)
  unfolding leader_from over
  first_from zero j = omega arith
  first_from (suc k) j = either_way (leader p j)
      (λ t. rw (note_starts j, t) (omega arith))
      (λ t. rw (note_starts j, t) (first_from k (j + 1) ∙ omega arith))

  notes_behind : (j : ℕ) → j < size p → drop (j + 1) (notes_of p) ≡ notes_from (j + 1) (size p - j)
  unfolding notes_of
  notes_behind j lt =
      let f : ℕ → List Note = λ i. only (note_of p i) in
      let whole : size p + 1 ≡ j + 1 + (size p - j) = omega arith in
      let next : 0 + (j + 1) ≡ j + 1 = omega arith in
      rw (whole, over_split f 0 (j + 1) (size p - j), next) (drop_at (over f 0 (j + 1)) (over f (j + 1) (size p - j)) (j + 1) (over_length (note_of p) 0 (j + 1)))

  -- the range at n ends at n, every other where the next block starts
  pub end_last : (j : ℕ) → j ≡ size p → j ≡ past p j
  end_last j e = rw e (sym (past_end p))

  module _ (j : ℕ) (ns : List Note) (e : ns ≡ notes_of p) (lt : j < size p) where
    abbrev behind : List Note
    behind = take (length ns - (j + 1)) (drop (j + 1) ns)

    behind_all : behind ≡ drop (j + 1) ns
    behind_all = take_all (length ns - (j + 1)) (drop (j + 1) ns) (rw (length-drop (j + 1) ns) (omega arith))

    pub end_first : j + 1 + position_or_len starts_some behind ≡ past p j
    unfolding past
    end_first = rw (behind_all, e, notes_behind j lt, ne_eqb j (size p) (λ z. omega arith)) (sym (first_from (size p - j) (j + 1)))

    pub end_none : ltb (position_or_len starts_some behind) (length behind) ≡ false → length ns ≡ past p j
    end_none none =
        let long : length ns ≡ size p + 1 = rw e (unfold notes_of in over_length (note_of p) 0 (size p + 1)) in
        let all : length behind ≡ length ns - (j + 1) = rw behind_all (length-drop (j + 1) ns) in
        omega (arith, end_first, all, ltb-false (position_or_len starts_some behind) (length behind) none, prefix_len-le-length (λ n. not (starts_some n)) behind)
