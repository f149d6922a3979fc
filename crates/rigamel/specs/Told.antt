-- What the numbers of a call say: all that the definition has, and number 0 exactly where nothing is refused.
use Rattle.std.specs.Prelude.{ℕ, ◌≤◌, List, ◌++◌, ◌≡◌, length, take, drop}
use Rattle.lines.specs.Out.{output, puts}
use Rattle.judging.specs.Refusal.{refusal_line}
use Rattle.reading.specs.Reading.{opening, delivery}
use Rattle.reading.specs.Loading.{loading}
use Rattle.rigamel.specs.Numbers.{outcome_of, reading_of, opens, delivers, loads}
use Rattle.rigamel.specs.declared.Reading.{Reading}

-- the most bytes that the line of a refusal takes
abbrev pub most_line : ℕ
most_line = 62

pub record Told : Type 0 where
  -- for every chunk, reading and output, the numbers stand for the definition's outcome: so number 0 is no refusal's
  pub loaded : (r : Reading) (s out : List ℕ) → outcome_of (loads r s out) ≡ loading (reading_of r) s out
  pub opened : (r : Reading) (s out : List ℕ) → outcome_of (opens r s out) ≡ opening (reading_of r) s out
  pub delivered : (r : Reading) (s out : List ℕ) → outcome_of (delivers r s out) ≡ delivery (reading_of r) s out
  -- a refused load leaves the reading, whatever numbers stand in it, as it was, and a refused delivery the reading and the output
  pub load_refused : (r : Reading) (s out : List ℕ) → ((loads r s out).answer.number ≡ 0 → ⊥) → (loads r s out).reading ≡ r
  pub refused : (r : Reading) (s out : List ℕ) → ((delivers r s out).answer.number ≡ 0 → ⊥)
      → ((delivers r s out).reading ≡ r) × ((delivers r s out).output ≡ out)
  -- an X line is short, and printing it answers its length
  pub line_short : (n f p : ℕ) → length (refusal_line n f p) ≤ most_line
  pub line_counted : (out : List ℕ) (n f p : ℕ)
      → (puts (output out 0) (refusal_line n f p)).at ≡ length (refusal_line n f p)
  -- it stands at the output's start, with what was behind it; in a shorter output, as far as that goes
  pub line_cut : (out : List ℕ) (n f p : ℕ)
      → (puts (output out 0) (refusal_line n f p)).bytes
      ≡ take (length out) (refusal_line n f p ++ drop (length (refusal_line n f p)) out)
