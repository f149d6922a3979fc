-- P10's lengths, for every list. Assumes nothing.
use Rattle.lua51_deserializer.proofs.Numbers.{long_refused}
use Prim.Native.Nat.{ℕ}
use native.Mathlib.Omega.{arith}
use mathlib.Core.Path.{◌≡◌}
use Rattle.judging.proofs.Since.{Since, gives, refuses, short_since}
use Rattle.judging.specs.Judge.{judge, Answer, judge_read, refusal}
use Rattle.cases.specs.Lengths.{Lengths}

-- a refusal from 2 on is not 1
not_first : {a : Answer} (f p : ℕ) → Since 2 a → a ≡ refusal 1 f p → ⊥
not_first f p (gives {n = n}) e = let z : ◌≡◌ {A = ℕ} 0 1 = cc in omega arith
not_first f p (refuses {n = n} l) e = let z : n ≡ 1 = cc in omega arith

pub lengths : Lengths
unfolding judge judge_read
lengths = record {
  stands = λ back s h f p e. not_first f p (short_since back s (omega arith)) e;
  refused = λ back s h. rw (long_refused s (omega arith));
}
