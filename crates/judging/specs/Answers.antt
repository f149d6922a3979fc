-- What the code's answers stand for, and what it goes by where it judges a chunk's functions.
use Rattle.std.specs.Prelude.{ℕ, ◌≤◌, ◌<◌, List, ◌≡◌, length, Result, Ok, Err}
use Rattle.lua51_instruction.specs.Proto.{Proto}
use Rattle.lua51_deserializer.specs.Chunk.{here, walked, walk}
use Rattle.lua51_deserializer.specs.Walked.{places_of}
use Rattle.lua51_deserializer.specs.declared.chunk.Functions.{Functions}
use Rattle.judging.specs.Judge as judge
use Rattle.judging.specs.Judge.{given}
use Rattle.judging.specs.Refusal.{refusal_of}
use Rattle.judging.specs.declared.refusal.Refusal.{Refusal}

-- a count or a length, or document 01's number, function and place
abbrev pub answer_of : Result ℕ Refusal → judge.Answer
answer_of (Ok n) = given n
answer_of (Err r) = refusal_of r

-- s was read whole, and these are its functions
pub record Whole (s : List ℕ) (functions : Functions) : Type 0 where
  pub end : ℕ
  pub walk : walked (here end) (places_of functions) ≡ walk s

-- room for so many words, kinds of constants and marks has a place for p: two marks of each word and behind the last
pub record Fits (p : Proto) (ws ks ms : ℕ) : Type 0 where
  pub words : length p.words ≤ ws
  pub kinds : length p.kinds ≤ ks
  pub marks : length p.words < ms
