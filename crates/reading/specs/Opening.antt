-- What the code's readings, openings, loads and deliveries stand for, and what it goes by where it writes a listing.
use Rattle.std.specs.Prelude.{ℕ, ◌<◌, cond, List, ◌++◌, ◌≡◌, leb, length, drop, Result, Ok, Err}
use Rattle.house_table.specs.House.{word_back}
use Rattle.lua51_deserializer.specs.Chunk.{walk}
use Rattle.lua51_deserializer.specs.Walked.{places_of}
use Rattle.lua51_deserializer.specs.declared.chunk.Functions.{Functions}
use Rattle.judging.specs.Judge.{given, judge}
use Rattle.judging.specs.Judge as judging
use Rattle.judging.specs.Answers.{answer_of}
use Rattle.judging.specs.Refusal.{refusal_of}
use Rattle.judging.specs.declared.refusal.Refusal.{Refusal}
use Rattle.reading.specs.Reading as reading
use Rattle.reading.specs.declared.Called.{Called}
use Rattle.reading.specs.declared.Reading.{Reading}

-- the definition's reading
abbrev pub reading_of : Reading → reading.Reading
reading_of r = record { is_open = r.opened; next = r.next; table = r.table }

-- an answer, the reading that is left and the output as it is then
abbrev pub outcome_by : Result ℕ Refusal → Reading → List ℕ → reading.Outcome
outcome_by a r out = record { answer = answer_of a; reading = reading_of r; output = out }

-- what a call gives and leaves, where the output holds `out` then; an opening and a load take no output, so that stays
abbrev pub outcome_of : Called → List ℕ → reading.Outcome
outcome_of c out = outcome_by c.answer c.reading out

-- a load has nothing to give but 0
abbrev pub load_answer_of : Result (Unit {0}) Refusal → judging.Answer
load_answer_of (Ok t) = given 0
load_answer_of (Err r) = refusal_of r

abbrev pub load_outcome_by : Result (Unit {0}) Refusal → Reading → List ℕ → reading.Outcome
load_outcome_by a r out = record { answer = load_answer_of a; reading = reading_of r; output = out }

-- an output that is long enough for these bytes has them from its start; any other stays as it was
abbrev pub where_it_fits : List ℕ → List ℕ → List ℕ
where_it_fits bytes out = cond (leb (length bytes) (length out)) (bytes ++ drop (length bytes) out) out

-- the chunk s was judged under a table: it is accepted, these are its functions, and f is one of them
pub record Next (table s : List ℕ) (functions : Functions) (f : ℕ) : Type 0 where
  pub count : ℕ
  pub judged : judge (word_back table) s ≡ given count
  pub places : places_of functions ≡ (walk s).places
  pub below : f < count
