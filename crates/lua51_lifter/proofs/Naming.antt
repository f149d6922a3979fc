-- Blocks by what stands in them for statements: where one form is the other mapped, so are the blocks. The graph without the
-- words that its statements name is document 01's. Assumes nothing.
use mathlib.Core.Bool.{Bool, true, false, cond, ◌&&◌}
use Prim.Native.Nat.{ℕ, zero, suc, ◌+◌, ◌-◌}
use mathlib.Core.Path.{◌≡◌, refl, ap, ◌∙◌}
use mathlib.Core.List.{List, [], ◌++◌, map, map-append, map-map, map-id}
use lib.Dec.{ltb, eqb}
use Rattle.basics.specs.Range.{over, only}
use Rattle.lua51_instruction.specs.Word.{TESTSET}
use Rattle.lua51_instruction.specs.Proto.{Proto, size, is}
use Rattle.ast.specs.Statement.{Stmt}
use Rattle.cfg.specs.Graph.{leader, past, entering, then_of, is_loop, diverted}
use Rattle.lua51_lifter.specs.Lift.{statements, on_then}
use Rattle.lua51_lifter.specs.Blocks.{Block, entry_nils, stated, brought, front, code_block, entry_block, between_block, blocks}
use Rattle.lua51_lifter.specs.Blocks.{Named, naming, unnamed, graph, said_in}

module _ {X Y : Type 0} (h : X → Y) where
  map_cond : (b : Bool) (xs : List X) (ys : List Y) → map h xs ≡ ys → map h (cond b xs []) ≡ cond b ys []
  map_cond true xs ys e = e
  map_cond false xs ys e = refl

  map_over : (f : ℕ → List X) (g : ℕ → List Y) → ((i : ℕ) → map h (f i) ≡ g i) → (from k : ℕ)
      → map h (over f from k) ≡ over g from k
  unfolding over
  map_over f g e from zero = refl
  map_over f g e from (suc k) = map-append h (f from) (over f (from + 1) k) ∙ rw (e from, map_over f g e (from + 1) k)

  -- a block with what stands in it mapped
  abbrev pub mapped : Block X → Block Y
  mapped b = record { first = b.first; past = b.past; kind = b.kind; body = map h b.body; edges = b.edges }

-- ------------------------------------------------------------ the blocks of two forms

module _ {X Y : Type 0} (h : X → Y) (f : ℕ → ℕ → List Stmt → List X) (g : ℕ → ℕ → List Stmt → List Y)
    (maps : (i o : ℕ) (ss : List Stmt) → map h (f i o ss) ≡ g i o ss) (p : Proto) where
  front_maps : (t : ℕ) → map h (front f p t) ≡ front g p t
  unfolding front brought
  front_maps t =
      map-append h (cond (ltb 0 t && is p (t - 1) TESTSET) _ []) _
      ∙ rw (
        map_cond h (ltb 0 t && is p (t - 1) TESTSET) _ _ (maps _ _ (on_then p (t - 1))),
        map_cond h (eqb (entering p t) 1) _ _
            (map_over h _ _ (λ i. map_cond h (is_loop p i && eqb (then_of p i) t) _ _ (maps _ _ (on_then p i))) 0 (size p)),
      )

  pub code_maps : (j : ℕ) → mapped h (code_block f p j) ≡ code_block g p j
  unfolding code_block stated
  code_maps j = rw (
    map-append h (front f p j) (over (stated f p) j (past p j - j)),
    front_maps j,
    map_over h (stated f p) (stated g p) (λ i. maps _ _ (statements p i)) j (past p j - j),
  )

  pub entry_maps : mapped h (entry_block f p) ≡ entry_block g p
  unfolding entry_block
  entry_maps = rw (maps _ _ (entry_nils p))

  pub between_maps : (i : ℕ) → mapped h (between_block f p i) ≡ between_block g p i
  unfolding between_block brought
  between_maps i = rw (maps _ _ (on_then p i))

  pub blocks_map : map (mapped h) (blocks f p) ≡ blocks g p
  unfolding blocks
  blocks_map =
      map-append (mapped h) (over (λ j. cond (leader p j) (only (code_block f p j)) []) 0 (size p + 1)) _
      ∙ rw (
        chosen (leader p) (code_block f p) (code_block g p) code_maps (size p + 1),
        entry_maps,
        chosen (diverted p) (between_block f p) (between_block g p) between_maps (size p),
      )
    where
      chosen : (t : ℕ → Bool) (x : ℕ → Block X) (y : ℕ → Block Y) → ((i : ℕ) → mapped h (x i) ≡ y i) → (k : ℕ)
          → map (mapped h) (over (λ i. cond (t i) (only (x i)) []) 0 k) ≡ over (λ i. cond (t i) (only (y i)) []) 0 k
      chosen t x y e = map_over (mapped h) (λ i. cond (t i) (only (x i)) []) (λ i. cond (t i) (only (y i)) [])
          (λ i. map_cond (mapped h) (t i) (only (x i)) (only (y i)) (rw (e i))) 0

-- ------------------------------------------------------------ what is said

abbrev pub says : Named → Stmt
says s = s.says

said_naming : (i o : ℕ) (ss : List Stmt) → map says (naming i o ss) ≡ unnamed i o ss
unfolding naming
said_naming i o ss = map-map says _ ss ∙ map-id ss

module _ (p : Proto) where
  pub said_code : (j : ℕ) → said_in (code_block naming p j) ≡ front unnamed p j ++ over (statements p) j (past p j - j)
  unfolding code_block stated
  said_code j = ap {B = List Stmt} (λ (b : Block Stmt). b.body) (code_maps says naming unnamed said_naming p j)

  pub said_entry : said_in (entry_block naming p) ≡ entry_nils p
  unfolding entry_block
  said_entry = said_naming _ _ (entry_nils p)

  pub said_between : (i : ℕ) → said_in (between_block naming p i) ≡ on_then p i
  unfolding between_block brought
  said_between i = said_naming _ _ (on_then p i)

  pub said_graph : map (mapped says) (graph p) ≡ blocks unnamed p
  unfolding graph
  said_graph = blocks_map says naming unnamed said_naming p
