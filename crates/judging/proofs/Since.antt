-- The numbers from which on a judgement refuses: from 1, and a chunk that is not too long from 2. Assumes nothing.
use Prim.Native.Nat.{ℕ, zero, suc, ◌+◌, ◌≤◌}
use native.Mathlib.Omega.{arith}
use mathlib.Core.Bool.{Bool, true, false}
use mathlib.Core.Path.{◌≡◌, refl}
use mathlib.Core.List.{List}
use borrow.Author.Tests.{ltb-true, ltb-false}
use lib.Dec.{ltb}
use lib.ListN.{length}
use Rattle.lua51_instruction.specs.Proto.{reworded}
use Rattle.lua51_deserializer.specs.Chunk.{Read, Place, walk, proto_at}
use Rattle.lua51_deserializer.proofs.Numbers.{Later, goes_on, later, short_later, long_refused}
use Rattle.lua51_lifter.specs.Check.{Verdict}
use Rattle.lua51_lifter.proofs.Verdicts.{From, not_one, from_on, check_from}
use Rattle.judging.specs.Judge.{Answer, given, refusal, judge, judge_read, judge_from, judged}

-- a count, or a refusal whose number is l or more
pub data Since (l : ℕ) : Answer → Type 0 where
  gives : {n : ℕ} → Since l (given n)
  refuses : {n f p : ℕ} → l ≤ n → Since l (refusal n f p)

judged_since : (f : ℕ) {v : Verdict} {rest : Answer} → From 7 v → Since 2 rest → Since 2 (judged f v rest)
judged_since f not_one h = h
judged_since f (from_on {n = n} l) h = refuses {n = n} (omega arith)

functions_since : (back : ℕ → ℕ) (s : List ℕ) (ps : List Place) (f k : ℕ) → Since 2 (judge_from back s ps f k)
unfolding judge_from
functions_since back s ps f zero = gives
functions_since back s ps f (suc k) = judged_since f (check_from (reworded back (proto_at s ps f))) (functions_since back s ps (f + 1) k)

read_since : (back : ℕ → ℕ) (s : List ℕ) (ps : List Place) {r : Read} → Later r → Since 2 (judge_read back s ps r)
unfolding judge_read
read_since back s ps goes_on = functions_since back s ps 0 (length ps)
read_since back s ps (later l) = refuses l

pub short_since : (back : ℕ → ℕ) (s : List ℕ) → length s ≤ 65536 → Since 2 (judge back s)
unfolding judge
short_since back s h = read_since back s (walk s).places (short_later s h)

less : {a : Answer} → Since 2 a → Since 1 a
less gives = gives
less (refuses {n = n} l) = refuses {n = n} (omega arith)

-- no refusal has number 0
pub judge_since : (back : ℕ → ℕ) (s : List ℕ) → Since 1 (judge back s)
unfolding judge judge_read
judge_since back s = go (ltb 65536 (length s)) refl
  where
    go : (b : Bool) → ltb 65536 (length s) ≡ b → Since 1 (judge back s)
    go true e = rw (long_refused s (ltb-true 65536 (length s) e)) (refuses {n = 1} (omega arith))
    go false e = less (short_since back s (omega (arith, ltb-false 65536 (length s) e)))
