-- The lines of all blocks. Assumes nothing.
use Prim.Native.Nat.{ℕ, zero, suc, ◌+◌, ◌≤◌}
use native.Mathlib.Omega.{arith}
use mathlib.Core.Bool.{Bool, true, false, cond}
use mathlib.Core.List.{List, [], ◌∷◌, ◌++◌, append_assoc, append-nil, flat_map}
use mathlib.Core.Path.{◌≡◌, refl, ◌∙◌, sym}
use lib.ListN.{length}
use Rattle.std.specs.Prelude.{Option, Some, None, is_some}
use Rattle.lines.specs.Out.{Puts}
use Rattle.lines.specs.declared.Output.{Output}
use Rattle.lines.proofs.Puts.{puts_nothing, puts_then, puts_equal}
use Rattle.basics.specs.Range.{over, only}
use Rattle.basics.proofs.Range.{over_split, chosen_length}
use Rattle.lua51_instruction.specs.Proto.{Proto, size}
use Rattle.cfg.specs.Graph.{leader, block_of, entry_of, between_of, diverted}
use Rattle.cfg_notes.specs.Notes.{notes_of, note_in, noted}
use Rattle.cfg_notes.specs.declared.notes.Note.{Note}
use Rattle.cfg_notes.proofs.Parts.{start_said}
use Rattle.cfg_notes.proofs.Numbering.{block_next, block_first, between_next, between_first}
use Rattle.lua51_lifter.specs.Blocks.{Block, code_block, entry_block, between_block, blocks, Named, naming, graph}
use Rattle.lua51_lifter.specs.Listing.{item_line, block_items, all_block_items, named_numbers, source_lines, block_line, block_lines}
use Rattle.lua51_statements.proofs.Pieces.{pieces_append}
use Rattle.block_lines.specs.Lines.{code_lines, between_lines}

-- ------------------------------------------------------------ loops

-- a loop that prints the lines of each number from 0 on: before the turn at i it has printed those below i. Its start, and one turn
module _ (f : ℕ → List ℕ) where
  pub range_start : (o : Output) → Puts o o (over f 0 0)
  unfolding over
  range_start o = puts_nothing o

  range_more : (i : ℕ) → over f 0 i ++ f i ≡ over f 0 (i + 1)
  unfolding over
  range_more i = let here : 0 + i ≡ i = omega arith in sym (over_split f 0 i 1 ∙ rw (here, append-nil (f i)) refl)

  pub range_turn : {a b c : Output} (i : ℕ) → Puts a b (over f 0 i) → Puts b c (f i) → Puts a c (over f 0 (i + 1))
  range_turn i p q = puts_equal (range_more i) (puts_then p q)

-- a note is read where a block starts
pub start_read : (p : Proto) (ns : List Note) → ns ≡ notes_of p → (j : ℕ) → j ≤ size p → {o : Option ℕ} → o ≡ noted (note_in ns j).start
    → is_some o ≡ leader p j
start_read p ns e j le read = rw (read, start_said p ns e j le) (by_test (leader p j))
  where
    by_test : (b : Bool) → is_some (cond b (Some (block_of p j + 1)) None) ≡ b
    by_test true = refl
    by_test false = refl

-- ------------------------------------------------------------ all blocks

module _ (p : Proto) where
  -- the lines of no block; of the first block, then those of the others
  lines_none : (n : ℕ) → block_lines p n [] ≡ []
  unfolding all_block_items flat_map
  lines_none n = refl

  lines_more : (n : ℕ) (b : Block Named) (bs : List (Block Named)) → block_lines p n (b ∷ bs) ≡ block_line p n b ++ block_lines p (n + 1) bs
  unfolding all_block_items
  lines_more n b bs = pieces_append item_line (block_items named_numbers (source_lines p) n b) (all_block_items named_numbers (source_lines p) (n + 1) bs)

  -- the lines of blocks that are chosen from a range, each with its number
  module _ (c : ℕ → Bool) (b : ℕ → Block Named) (number : ℕ → ℕ) (next : (j : ℕ) → number (j + 1) ≡ number j + cond (c j) 1 0) where
    abbrev chosen : ℕ → List (Block Named)
    chosen j = cond (c j) (only (b j)) []

    abbrev lines : ℕ → List ℕ
    lines j = cond (c j) (block_line p (number j) (b j)) []

    pub numbered : (from k : ℕ) → block_lines p (number from) (over chosen from k) ≡ over lines from k
    unfolding over
    numbered from zero = lines_none (number from)
    numbered from (suc k) = go (numbered (from + 1) k) (c from) refl
      where
        go : block_lines p (number (from + 1)) (over chosen (from + 1) k) ≡ over lines (from + 1) k → (t : Bool) → c from ≡ t
            → block_lines p (number from) (chosen from ++ over chosen (from + 1) k) ≡ lines from ++ over lines (from + 1) k
        go rest true e = let n : number from + 1 ≡ number (from + 1) = rw e at (sym (next from)) in rw (e, lines_more (number from) (b from) (over chosen (from + 1) k), n, rest)
        go rest false e = let n : number from ≡ number (from + 1) = omega (arith, rw e at (next from)) in rw (e, n, rest)

  lines_append : (n : ℕ) (xs ys : List (Block Named)) → block_lines p n (xs ++ ys) ≡ block_lines p n xs ++ block_lines p (n + length xs) ys
  lines_append n [] ys = let z : n + 0 ≡ n = omega arith in rw (z, lines_none n)
  lines_append n (x ∷ xs) ys =
      let z : n + 1 + length xs ≡ n + suc (length xs) = omega arith in
      rw (lines_more n x (xs ++ ys), lines_more n x xs, lines_append (n + 1) xs ys, z, append_assoc)

  codes : List (Block Named)
  codes = over (λ j. cond (leader p j) (only (code_block naming p j)) []) 0 (size p + 1)

  betweens : List (Block Named)
  betweens = over (λ i. cond (diverted p i) (only (between_block naming p i)) []) 0 (size p)

  codes_count : length codes ≡ entry_of p
  unfolding codes block_of
  codes_count = chosen_length (leader p) (code_block naming p) 0 (size p + 1)

  code_lines_lem : block_lines p 0 codes ≡ over (code_lines p) 0 (size p + 1)
  unfolding codes code_lines
  code_lines_lem = rw (block_first p) at (numbered (leader p) (code_block naming p) (block_of p) (block_next p) 0 (size p + 1))

  between_lines_lem : block_lines p (entry_of p + 1) betweens ≡ over (between_lines p) 0 (size p)
  unfolding betweens between_lines
  between_lines_lem = rw (between_first p) at (numbered (diverted p) (between_block naming p) (between_of p) (between_next p) 0 (size p))

  behind_codes : (n : ℕ) → n ≡ entry_of p → block_lines p n (entry_block naming p ∷ betweens) ≡ block_line p (entry_of p) (entry_block naming p) ++ over (between_lines p) 0 (size p)
  behind_codes n e = lines_more n (entry_block naming p) betweens ∙ rw (e, between_lines_lem)

  -- the lines of a function's blocks: code blocks, entry, betweens
  pub graph_lines : block_lines p 0 (graph p) ≡ over (code_lines p) 0 (size p + 1) ++ (block_line p (entry_of p) (entry_block naming p) ++ over (between_lines p) 0 (size p))
  unfolding graph blocks codes betweens
  graph_lines = lines_append 0 codes (entry_block naming p ∷ betweens) ∙ rw (code_lines_lem, behind_codes (0 + length codes) (omega (arith, codes_count)))

-- the blocks of a function, part by part: its code blocks, its entry and its betweens
pub graph_printed : (p : Proto) (number : ℕ) {o o₁ o₂ o₃ : Output} → number ≡ entry_of p
    → Puts o o₁ (over (code_lines p) 0 (size p + 1))
    → Puts o₁ o₂ (block_line p number (entry_block naming p))
    → Puts o₂ o₃ (over (between_lines p) 0 (size p)) → Puts o o₃ (block_lines p 0 (graph p))
graph_printed p number n codes entry betweens = puts_equal (rw n (sym (graph_lines p))) (puts_then codes (puts_then entry betweens))
