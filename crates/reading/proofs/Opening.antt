-- Laws of opening: which reading an answer leaves. Assumes nothing.
use mathlib.Core.Path.{◌≡◌}
use mathlib.Core.Bool.{true}
use mathlib.Core.List.{List}
use Prim.Native.Nat.{ℕ}
use Rattle.house_table.specs.House.{word_back}
use Rattle.judging.specs.Judge.{given, judge}
use Rattle.judging.specs.Refusal.{refusal_of}
use Rattle.judging.specs.declared.refusal.Refusal.{Refusal}
use Rattle.judging.proofs.Refusals.{refused}
use Rattle.reading.specs.Reading.{Reading, closed_with, opening, opened_by}

module _ (r : Reading) (s out : List ℕ) where
  -- a refusal leaves the reading closed
  pub refused_closed : (x : Refusal) → refusal_of x ≡ judge (word_back r.table) s
      → record { answer = refusal_of x; reading = closed_with r.table; output = out } ≡ opening r s out
  unfolding opening opened_by
  refused_closed x e = rw (← e, (refused x).is)

  -- an answer that gives a count opens it, at function 0
  pub given_opened : (n : ℕ) → given n ≡ judge (word_back r.table) s
      → record { answer = given n; reading = record { is_open = true; next = 0; table = r.table }; output = out } ≡ opening r s out
  unfolding opening opened_by
  given_opened n e = rw (← e)
