-- What the numbers of the interface for C stand for, and the numbers of what a call gives and leaves.
use Rattle.std.specs.Prelude.{ℕ, cond, List, eqb, ltb}
use Rattle.judging.specs.Judge as judge
use Rattle.judging.specs.Judge.{given, refusal}
use Rattle.reading.specs.Reading as reading
use Rattle.reading.specs.Loading.{loading}
use Rattle.rigamel.specs.declared.Answer.{Answer}
use Rattle.rigamel.specs.declared.Reading.{Reading}

-- what a call gives and leaves, in numbers
pub record Outcome : Type 0 where
  pub answer : Answer
  pub reading : Reading
  pub output : List ℕ

abbrev pub outcome : Answer → Reading → List ℕ → Outcome
outcome a r out = record { answer = a; reading = r; output = out }

-- ------------------------------------------------------------ what numbers stand for

-- a reading: with `opened` 0 it is closed, with any other number open; its table is the one that stands in it, of whatever numbers
abbrev pub reading_of : Reading → reading.Reading
reading_of r = record { is_open = ltb 0 r.opened; next = r.next; table = r.table }

-- an answer: with number 0 it gives a count or a length, with any other number it is a refusal
abbrev pub answer_of : Answer → judge.Answer
answer_of a = cond (eqb a.number 0) (given a.length) (refusal a.number a.function a.place)

abbrev pub outcome_of : Outcome → reading.Outcome
outcome_of o = record { answer = answer_of o.answer; reading = reading_of o.reading; output = o.output }

-- ------------------------------------------------------------ the numbers

-- the numbers of an answer; what it does not say is 0
unfoldable pub answer_numbers : judge.Answer → Answer
answer_numbers (given n) = record { number = 0; function = 0; place = 0; length = n }
answer_numbers (refusal n f p) = record { number = n; function = f; place = p; length = 0 }

-- the numbers of a reading, where `held` stands for open
abbrev pub reading_numbers : ℕ → reading.Reading → Reading
reading_numbers held r = record { opened = cond r.is_open held 0; next = r.next; table = r.table }

-- the numbers of what a call gives and leaves
abbrev pub numbers_of : ℕ → reading.Outcome → Outcome
numbers_of held o = outcome (answer_numbers o.answer) (reading_numbers held o.reading) o.output

-- a load into a reading, whose own number stands for open
abbrev pub loads : Reading → List ℕ → List ℕ → Outcome
loads r s out = numbers_of r.opened (loading (reading_of r) s out)

-- an opening from a reading: 1 stands for open
abbrev pub opens : Reading → List ℕ → List ℕ → Outcome
opens r s out = numbers_of 1 (reading.opening (reading_of r) s out)

-- a delivery from a reading, whose own number stands for open
abbrev pub delivers : Reading → List ℕ → List ℕ → Outcome
delivers r s out = numbers_of r.opened (reading.delivery (reading_of r) s out)
