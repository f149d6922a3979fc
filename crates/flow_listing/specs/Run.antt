-- What the code holds while it prints the pieces of the listing program's output.
use Rattle.std.specs.Prelude.{ℕ, ◌+◌, ◌-◌, ◌≤◌, ◌<◌, Bool, true, false, List, [], ◌∷◌, ◌++◌, ◌≡◌, length, Result}
use Rattle.basics.specs.Range.{over, only}
use Rattle.lua51_deserializer.specs.Chunk.{walk, most_functions}
use Rattle.lua51_deserializer.specs.Walked.{places_of}
use Rattle.lua51_deserializer.specs.declared.chunk.Functions.{Functions}
use Rattle.judging.specs.Judge.{Answer, given, refusal, judge, listing_of}
use Rattle.judging.specs.Answers.{answer_of}
use Rattle.judging.specs.Refusal.{refusal_line}
use Rattle.judging.specs.declared.refusal.Refusal as code
use Rattle.follow.specs.Demand.{Accepted}
use Rattle.reading.specs.Program.{by_lua, listings, pieces}

-- function f of the accepted chunk s can be listed: these are the chunk's functions
pub record Listable (s : List ℕ) (functions : Functions) (f : ℕ) : Type 0 where
  pub accepted : Accepted by_lua s f
  pub places : places_of functions ≡ (walk s).places

-- the line of a refusal: 'one line X'
abbrev pub line_of : Answer → List ℕ
line_of (given n) = []
line_of (refusal n f p) = refusal_line n f p

-- the listings of the functions below n, a piece each
abbrev pub listings_below : List ℕ → ℕ → List (List ℕ)
listings_below s n = over (λ f. only (listing_of by_lua s f)) 0 n

-- what is to be printed behind the listings of the functions below k, by the judgement
abbrev pub left : List ℕ → Answer → ℕ → List (List ℕ)
left s (given n) k = listings by_lua s k (n - k)
left s (refusal n f p) k = refusal_line n f p ∷ []

-- the input s was judged, and of its pieces the first k, which are listings, are printed
pub record Reached (s : List ℕ) (answer : Result ℕ code.Refusal) (functions : Functions) (k : ℕ) : Type 0 where
  pub judged : answer_of answer ≡ judge by_lua s
  pub places : places_of functions ≡ (walk s).places
  pub pieces : pieces s ≡ listings_below s k ++ left s (judge by_lua s) k

-- where the run is behind piece k: at its end, or at the next piece
abbrev pub After : List ℕ → Result ℕ code.Refusal → Functions → ℕ → Bool → Type 0
After s answer functions k true = length (pieces s) ≤ k + 1
After s answer functions k false = (k < most_functions) × Reached s answer functions (k + 1)
