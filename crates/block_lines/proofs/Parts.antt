-- The lines of one block, part by part. Assumes nothing.
use Prim.Native.Nat.{ℕ, zero, suc, ◌-◌, ◌≤◌}
use native.Mathlib.Omega.{arith}
use mathlib.Core.Bool.{true, false}
use mathlib.Core.List.{List, [], ◌∷◌, ◌++◌, append_assoc, map, flat_map}
use mathlib.Core.Path.{◌≡◌, refl, ◌∙◌, sym}
use Rattle.lines.specs.Line.{line, letter_b, letter_e}
use Rattle.lines.specs.Out.{Puts}
use Rattle.lines.specs.declared.Output.{Output}
use Rattle.lines.proofs.Puts.{puts_then, puts_equal}
use Rattle.basics.specs.Range.{over, only}
use Rattle.lua51_instruction.specs.Proto.{Proto, size}
use Rattle.ast.specs.Statement.{nil, set_register}
use Rattle.cfg.specs.Graph.{past, plain_edge, block_of, then_of, between_of, diverted}
use Rattle.cfg_notes.specs.Notes.{front_note}
use Rattle.lua51_lifter.specs.Blocks.{Block, edges_of, entry_nils, entry_opcode, stated, brought, front, code_block, entry_block}
use Rattle.lua51_lifter.specs.Blocks.{between_block, Named, naming}
use Rattle.lua51_lifter.specs.SourceLines.{lines_of, lowest, highest}
use Rattle.lua51_lifter.specs.Listing.{Item, item_line, statement_item, edge_item, block_items, named_numbers, source_lines, statement_line, edge_line, block_line}
use Rattle.lua51_statements.specs.Lines.{line_within}
use Rattle.lua51_statements.proofs.Pieces.{pieces_append, pieces_one}
use Rattle.lua51_lister.proofs.Runs.{then_whole}
use Rattle.block_lines.specs.Lines.{run_numbers, Checked, Draws, between_lines}
use Rattle.block_lines.specs.declared.blocks.Drawn.{Drawn}
use Rattle.block_lines.proofs.Fronts.{noted, front_noted}
use Rattle.lua51_lifter.proofs.LinesShown.{lines_none}

-- a function that the code holds, once its graph is noted
pub checked : {p : Proto} {d : Drawn} → Draws p d → Checked p d
checked draws = record { words = draws.held.stands.words; fine = draws.held.fine; notes = draws.notes }

-- the lines of items that are told by f
lines_of_lem : {X : Type 0} (f : X → Item) (xs : List X) → flat_map item_line (map f xs) ≡ flat_map (λ x. item_line (f x)) xs
unfolding flat_map
lines_of_lem f [] = refl
lines_of_lem f (x ∷ xs) = rw (lines_of_lem f xs)

-- a block's B line, its statements, its edges
block_parts : (p : Proto) (n : ℕ) (b : Block Named)
    → block_line p n b
    ≡ line letter_b (n ∷ b.first ∷ b.past ∷ b.kind ∷ source_lines p b) ++ (flat_map statement_line b.body ++ flat_map edge_line b.edges)
unfolding block_items flat_map
block_parts p n b =
    let said = map (statement_item named_numbers) b.body in
    let left = map edge_item b.edges in
    rw (pieces_append item_line said left, lines_of_lem (statement_item named_numbers) b.body, lines_of_lem edge_item b.edges) refl

-- a front is printed whole
pub front_whole : (p : Proto) (t n : ℕ) → run_numbers ≤ n → flat_map (line_within n) (front naming p t) ≡ flat_map statement_line (front naming p t)
front_whole p t n room = rw (front_noted p t) (by_note (front_note p t))
  where
    by_note : (k : ℕ) → flat_map (line_within n) (noted p k) ≡ flat_map statement_line (noted p k)
    by_note zero = unfold flat_map in refl
    by_note (suc i) = then_whole p i n room

-- a code block's statements are its front and those of its words
code_parts : (p : Proto) (j : ℕ)
    → block_line p (block_of p j) (code_block naming p j)
    ≡ line letter_b (block_of p j ∷ j ∷ past p j ∷ 0 ∷ lowest (lines_of p j (past p j)) ∷ highest (lines_of p j (past p j)) ∷ [])
    ++ (flat_map statement_line (front naming p j) ++ (flat_map statement_line (over (stated naming p) j (past p j - j)) ++ flat_map edge_line (edges_of p j)))
unfolding code_block source_lines
code_parts p j =
    block_parts p (block_of p j) (code_block naming p j)
    ∙ rw (pieces_append statement_line (front naming p j) (over (stated naming p) j (past p j - j)), append_assoc) refl

-- a code block, part by part: its B line, its front, its words and its edges
pub code_printed : (p : Proto) (j number end low high room room' : ℕ) {o o₁ o₂ o₃ o₄ : Output}
    → number ≡ block_of p j → end ≡ past p j → low ≡ lowest (lines_of p j end) → high ≡ highest (lines_of p j end)
    → Puts o o₁ (line letter_b (number ∷ j ∷ end ∷ 0 ∷ low ∷ high ∷ []))
    → Puts o₁ o₂ (flat_map (line_within room) (front naming p j))
    → Puts o₂ o₃ (flat_map (line_within room') (over (stated naming p) j (end - j)))
    → Puts o₃ o₄ (flat_map edge_line (edges_of p j))
    → flat_map (line_within room) (front naming p j) ≡ flat_map statement_line (front naming p j)
    → flat_map (line_within room') (over (stated naming p) j (past p j - j)) ≡ flat_map statement_line (over (stated naming p) j (past p j - j))
    → Puts o o₄ (block_line p (block_of p j) (code_block naming p j))
code_printed p j number end low high room room' n e l h first front body edges whole_front whole_body =
    puts_equal (rw (l, h, e, n, whole_front, whole_body) (sym (code_parts p j))) (puts_then first (puts_then front (puts_then body edges)))

-- the line of a plain edge
plain_line : (to : ℕ) → flat_map edge_line (only (plain_edge to)) ≡ line letter_e (0 ∷ to ∷ [])
plain_line to = pieces_one edge_line (plain_edge to)

-- the entry
pub entry_printed : (p : Proto) (number n parameters stack : ℕ) {o o₁ o₂ o₃ : Output}
    → p.parameters ≡ parameters → p.stack ≡ stack → n ≡ size p
    → Puts o o₁ (line letter_b (number ∷ n ∷ n ∷ 1 ∷ 0 ∷ 0 ∷ []))
    → Puts o₁ o₂ (flat_map statement_line (naming n entry_opcode (over (λ r. only (set_register r nil)) parameters (stack - parameters))))
    → Puts o₂ o₃ (line letter_e (0 ∷ 0 ∷ [])) → Puts o o₃ (block_line p number (entry_block naming p))
unfolding entry_block entry_nils source_lines lowest highest
entry_printed p number n parameters stack ps st count first body edge =
    puts_equal
    (rw (count, ← ps, ← st, ← (plain_line 0)) (sym (rw (lines_none p (size p) (size p) (omega arith)) at (block_parts p number (entry_block naming p)))))
    (puts_then first (puts_then body edge))

-- a between block
module _ (p : Proto) (i : ℕ) where
  pub no_between : diverted p i ≡ false → between_lines p i ≡ []
  unfolding between_lines
  no_between h = rw h

  pub between_printed : (number n to room : ℕ) {o o₁ o₂ o₃ : Output} → diverted p i ≡ true → run_numbers ≤ room
      → number ≡ between_of p i → n ≡ size p → to ≡ block_of p (then_of p i)
      → Puts o o₁ (line letter_b (number ∷ n ∷ n ∷ 2 ∷ 0 ∷ 0 ∷ []))
      → Puts o₁ o₂ (flat_map (line_within room) (brought naming p i))
      → Puts o₂ o₃ (line letter_e (0 ∷ to ∷ [])) → Puts o o₃ (between_lines p i)
  unfolding between_lines between_block source_lines lowest highest
  between_printed number n to room h roomy num count target first body edge =
      puts_equal
      (rw (h, num, count, target, then_whole p i room roomy, ← (plain_line (block_of p (then_of p i)))) (sym (rw (lines_none p (size p) (size p) (omega arith)) at (block_parts p (between_of p i) (between_block naming p i)))))
      (puts_then first (puts_then body edge))
