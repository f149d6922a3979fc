-- A function with every kind of flow: its leaders, block numbers, edges, entering edges and between blocks, computed.
-- Assumes nothing.
use Prim.Native.Nat.{ℕ, ◌+◌}
use mathlib.Core.List.{List, [], ◌∷◌, flat_map}
use mathlib.Core.Bool.{false, cond}
use mathlib.Core.Path.{◌≡◌, refl}
use Rattle.lua51_instruction.specs.Word.{MOVE, LOADBOOL, JMP, TEST, TESTSET, RETURN, FORLOOP, FORPREP, TFORLOOP, op_of}
use Rattle.lua51_instruction.specs.Word.{row, row_of}
use Rattle.lua51_instruction.specs.Jump.{target_of}
use Rattle.lua51_instruction.specs.Proto.{Proto, flow_at}
use Rattle.basics.specs.Range.{sum, over, times, only}
use Rattle.lua51_instruction.specs.Encode.{abc, jumps}
use Rattle.cfg.specs.Graph.{claims, leader, block_of, leaving, exits, entering, is_loop, then_of, diverted}
use Rattle.cfg.specs.Graph.{between_of}

sample_words : List ℕ
sample_words =
    -- 0: block 0
    abc TEST 0 0 1 ∷
    -- 1: block 1
    jumps JMP 0 1 5 ∷
    -- 2 and 3: block 2
    abc MOVE 0 0 0 ∷
    abc TESTSET 0 1 0 ∷
    -- 4: block 3
    jumps JMP 0 4 6 ∷
    -- 5: block 4
    abc LOADBOOL 0 0 1 ∷
    -- 6: block 5
    abc LOADBOOL 0 1 0 ∷
    -- 7: block 6
    jumps FORPREP 0 7 8 ∷
    -- 8: block 7
    jumps FORLOOP 0 8 8 ∷
    -- 9: block 8
    abc TFORLOOP 0 0 1 ∷
    -- 10: block 9
    jumps JMP 0 10 9 ∷
    -- 11: block 10; behind it stands block 11, then the entry, 12, and the between block of the FORLOOP, 13
    abc RETURN 0 1 0 ∷ []

sample : Proto
sample = record {
  number = 0;
  parameters = 0;
  upvalues = 0;
  flags = 0;
  stack = 4;
  words = sample_words;
  kinds = [];
  nested = [];
  nups = [];
  lines = [];
  names = 0;
}

-- every word from 0 to n but 3 starts a range; by its number
sample_blocks : over (λ j. cond (leader sample j) (only (block_of sample j)) []) 0 13 ≡ 0 ∷ 1 ∷ 2 ∷ 3 ∷ 4 ∷ 5 ∷ 6 ∷ 7 ∷ 8 ∷ 9 ∷ 10 ∷ 11 ∷ []
unfolding target_of over sum times op_of row row_of claims leader block_of sample sample_words
sample_blocks = refl

sample_unled : leader sample 3 ≡ false
unfolding target_of sum times op_of row row_of claims leader sample sample_words
sample_unled = refl

-- the edges of each word that ends a range: kind and word
sample_edges : over (λ i. cond (leader sample (i + 1)) (only (flat_map (λ e. e.kind ∷ e.to ∷ []) (leaving sample i (flow_at sample i)))) []) 0 12 ≡
    -- TEST at 0: Then to the next word, Else to the one after
    (1 ∷ 1 ∷ 2 ∷ 2 ∷ []) ∷
    -- JMP at 1
    (0 ∷ 5 ∷ []) ∷
    -- TESTSET at 3
    (1 ∷ 4 ∷ 2 ∷ 5 ∷ []) ∷
    -- JMP at 4
    (0 ∷ 6 ∷ []) ∷
    -- skipping LOADBOOL at 5
    (0 ∷ 7 ∷ []) ∷
    -- LOADBOOL at 6
    (0 ∷ 7 ∷ []) ∷
    -- FORPREP at 7
    (0 ∷ 8 ∷ []) ∷
    -- FORLOOP at 8: Then to its target, Else onward
    (1 ∷ 8 ∷ 2 ∷ 9 ∷ []) ∷
    -- TFORLOOP at 9
    (1 ∷ 10 ∷ 2 ∷ 11 ∷ []) ∷
    -- JMP at 10
    (0 ∷ 9 ∷ []) ∷
    -- RETURN at 11
    [] ∷ []
unfolding target_of flat_map over sum times op_of row row_of claims leader leaving sample sample_words
sample_edges = refl

-- how many edges enter each word's range: the entry's at 0
sample_entered : over (λ j. only (entering sample j)) 0 13 ≡ 1 ∷ 1 ∷ 1 ∷ 0 ∷ 1 ∷ 2 ∷ 1 ∷ 2 ∷ 2 ∷ 2 ∷ 1 ∷ 1 ∷ 0 ∷ []
unfolding target_of over sum times op_of row row_of claims leader leaving exits entering sample sample_words
sample_entered = refl

-- the FORLOOP's Then edge shares its block with the FORPREP's, so it is diverted; the TFORLOOP's does not
sample_betweens : over (λ i. cond (diverted sample i) (only (between_of sample i)) []) 0 12 ≡ 13 ∷ []
unfolding target_of over sum times op_of row row_of claims leader block_of leaving exits entering is_loop then_of diverted between_of sample sample_words
sample_betweens = refl
