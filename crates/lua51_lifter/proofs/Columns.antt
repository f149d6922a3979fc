-- Lines without what a request has added to them: a listing without the source lines of its B lines is request 1's, and without
-- the two columns of its S lines too it is document 01's (document 02, 1 and 2). Assumes nothing.
use Prim.Native.Nat.{ℕ, ◌+◌}
use mathlib.Core.Path.{◌≡◌, refl, ◌∙◌}
use mathlib.Core.List.{List, [], ◌∷◌, map, map-append, map-id}
use Rattle.lines.specs.Line.{letter_f, letter_k, letter_e}
use Rattle.lua51_instruction.specs.Proto.{Proto}
use Rattle.lua51_value.specs.Value.{Value}
use Rattle.ast.specs.Statement.{run}
use Rattle.cfg.specs.Graph.{Edge}
use Rattle.lua51_lifter.specs.Blocks.{Block, graph}
use Rattle.lua51_lifter.specs.Listing.{Item, item, statement_item, edge_item, block_item, block_items, all_block_items}
use Rattle.lua51_lifter.specs.Listing.{constant_items, function_items, named_numbers, source_lines, items}
use Rattle.lua51_lifter.specs.LinesShown.{no_lines, unlined_items, without_lines, LinesAlone}
use Rattle.lua51_lifter.specs.WordBehind.{compared_items, without_columns, ColumnsAlone}
use Rattle.lua51_lifter.proofs.Naming.{says, mapped, said_graph}

-- what `less` leaves of a line: of an F, K or E line all; of S and B lines those of another form, whose statements h gives
module _ (less : Item → Item)
    (functions : (ns : List ℕ) → less (item letter_f ns) ≡ item letter_f ns)
    (constants : (ns : List ℕ) → less (item letter_k ns) ≡ item letter_k ns)
    (edges : (ns : List ℕ) → less (item letter_e ns) ≡ item letter_e ns)
    {X Y : Type 0} (h : X → Y)
    (numbers : X → List ℕ) (gained : Block X → List ℕ) (numbers' : Y → List ℕ) (gained' : Block Y → List ℕ)
    (statements : (x : X) → less (statement_item numbers x) ≡ statement_item numbers' (h x))
    (blocks : (n : ℕ) (b : Block X) → less (block_item numbers gained n b) ≡ block_item numbers' gained' n (mapped h b)) where
  constants_kept : (i : ℕ) (vs : List Value) → map less (constant_items i vs) ≡ constant_items i vs
  unfolding constant_items
  constants_kept i [] = refl
  constants_kept i (v ∷ vs) = rw (constants _, constants_kept (i + 1) vs)

  statements_kept : (xs : List X) → map less (map (statement_item numbers) xs) ≡ map (statement_item numbers') (map h xs)
  statements_kept [] = refl
  statements_kept (x ∷ xs) = rw (statements x, statements_kept xs)

  edges_kept : (es : List Edge) → map less (map edge_item es) ≡ map edge_item es
  edges_kept [] = refl
  edges_kept (e ∷ es) = rw (edges _, edges_kept es)

  block_kept : (n : ℕ) (b : Block X) → map less (block_items numbers gained n b) ≡ block_items numbers' gained' n (mapped h b)
  unfolding block_items
  block_kept n b =
      rw (
        blocks n b,
        map-append less (map (statement_item numbers) b.body) (map edge_item b.edges),
        statements_kept b.body,
        edges_kept b.edges,
      )

  blocks_kept : (n : ℕ) (bs : List (Block X)) → map less (all_block_items numbers gained n bs) ≡ all_block_items numbers' gained' n (map (mapped h) bs)
  unfolding all_block_items
  blocks_kept n [] = refl
  blocks_kept n (b ∷ bs) =
      map-append less (block_items numbers gained n b) (all_block_items numbers gained (n + 1) bs)
      ∙ rw (block_kept n b, blocks_kept (n + 1) bs)

  kept : (p : Proto) (vs : List Value) (bs : List (Block X))
      → map less (function_items numbers gained p vs bs) ≡ function_items numbers' gained' p vs (map (mapped h) bs)
  unfolding function_items
  kept p vs bs =
      rw (
        functions _,
        map-append less (constant_items 0 vs) (all_block_items numbers gained 0 bs),
        constants_kept 0 vs,
        blocks_kept 0 bs,
      )

-- blocks whose statements stay are as they were
stay : {X : Type 0} (bs : List (Block X)) → map (mapped (λ (x : X). x)) bs ≡ bs
stay [] = refl
stay (b ∷ bs) = rw (map-id b.body, stay bs)

-- both of every function, accepted or not
pub lines_alone : LinesAlone
unfolding items unlined_items without_lines
lines_alone p vs =
    kept without_lines (λ ns. refl) (λ ns. refl) (λ ns. refl) (λ s. s) named_numbers (source_lines p) named_numbers no_lines (λ s. refl) (λ n b. refl) p vs (graph p)
    ∙ rw (stay (graph p))

pub columns_alone : ColumnsAlone
unfolding unlined_items compared_items without_columns named_numbers
columns_alone p vs =
    rw (lines_alone p vs)
    (kept without_columns (λ ns. refl) (λ ns. refl) (λ ns. refl) says named_numbers no_lines run no_lines (λ s. refl) (λ n b. refl) p vs (graph p)
    ∙ rw (said_graph p))
