-- A function of four words: its jump targets and the number of its closure, computed. Assumes nothing.
use Prim.Native.Nat.{ℕ, ◌-◌}
use mathlib.Core.List.{List, [], ◌∷◌}
use mathlib.Core.Path.{◌≡◌, refl}
use Rattle.lua51_instruction.specs.Word.{JMP, CLOSURE, bias}
use Rattle.lua51_instruction.specs.Jump.{target_of}
use Rattle.lua51_instruction.specs.Proto.{Proto, target_at, target, closure_of}
use Rattle.lua51_instruction.specs.Encode.{abx, jumps}
use Rattle.std.specs.Prelude.{Some, None}

sample_words : List ℕ
sample_words =
    -- 0: to word −1
    abx JMP 0 (bias - 2) ∷
    -- 1: to word 3, n − 1
    jumps JMP 0 1 3 ∷
    -- 2: to word 4, n
    jumps JMP 0 2 4 ∷
    -- 3: the second nested function
    abx CLOSURE 0 1 ∷ []

sample : Proto
sample = record {
  number = 0;
  parameters = 0;
  upvalues = 0;
  flags = 0;
  stack = 1;
  words = sample_words;
  kinds = [];
  nested = 5 ∷ 7 ∷ [];
  nups = 0 ∷ 0 ∷ [];
  lines = [];
  names = 0;
}

sample_below : target_at sample 0 ≡ None
unfolding target_of sample sample_words
sample_below = refl

-- document 01's P3: 'JMP to n − 1 stands, to n is 10'
sample_last : target_at sample 1 ≡ Some 3
unfolding target_of sample sample_words
sample_last = refl

sample_behind : target_at sample 2 ≡ None
unfolding target_of sample sample_words
sample_behind = refl

-- one outside counts as n
sample_counted : target sample 2 ≡ 4
unfolding target_of sample sample_words
sample_counted = refl

sample_closure : closure_of sample 3 ≡ 7
unfolding sample sample_words
sample_closure = refl
