-- What the judgement of an accepted chunk says: each of its functions is accepted, it has that many, and it was read whole.
-- Assumes nothing.
use Prim.Native.Nat.{ℕ, zero, suc, ◌+◌, ◌<◌}
use native.Mathlib.Omega.{arith}
use mathlib.Core.Path.{◌≡◌, refl, sym}
use mathlib.Core.List.{List}
use lib.ListN.{length}
use Rattle.lua51_instruction.specs.Proto.{reworded}
use Rattle.lua51_deserializer.specs.Chunk.{Read, here, refused, Place, walked, walk, proto_at}
use Rattle.lua51_deserializer.specs.Walked.{places_of}
use Rattle.lua51_deserializer.specs.declared.chunk.Functions.{Functions}
use Rattle.lua51_lifter.specs.Check.{fine, wrong, check, Verdict}
use Rattle.judging.specs.Judge.{given, refusal, judge, judge_from, judge_read}
use Rattle.judging.specs.Answers.{Whole}

-- a refusal is no count and no length
pub refusal_not_given : (m f p n : ℕ) → refusal m f p ≡ given n → ⊥
refusal_not_given m f p n e = let z : ◌≡◌ {A = ℕ} 0 1 = cc in omega arith

-- a judgement that comes through went past the first function and the others
past_first : (back : ℕ → ℕ) (s : List ℕ) (ps : List Place) (f k n : ℕ) → judge_from back s ps f (suc k) ≡ given n → (v : Verdict)
    → check (reworded back (proto_at s ps f)) ≡ v → (check (reworded back (proto_at s ps f)) ≡ fine) × (judge_from back s ps (f + 1) k ≡ given n)
unfolding judge_from
past_first back s ps f k n h fine e = (e, rw e at h)
past_first back s ps f k n h (wrong m q) e = let z : refusal m f q ≡ given n = rw e at h in absurd (refusal_not_given m f q n z)

all_fine : (back : ℕ → ℕ) (s : List ℕ) (ps : List Place) (f k n : ℕ) → judge_from back s ps f k ≡ given n → (i : ℕ) → i < k
    → check (reworded back (proto_at s ps (f + i))) ≡ fine
all_fine back s ps f zero n h i lt = absurd (omega arith)
all_fine back s ps f (suc k) n h zero lt =
    let e : f + 0 ≡ f = omega arith in
    rw e (past_first back s ps f k n h (check (reworded back (proto_at s ps f))) refl).0
all_fine back s ps f (suc k) n h (suc i) lt =
    let e : f + suc i ≡ f + 1 + i = omega arith in
    rw e (all_fine back s ps (f + 1) k n (past_first back s ps f k n h (check (reworded back (proto_at s ps f))) refl).1 i (omega arith))

all_counted : (back : ℕ → ℕ) (s : List ℕ) (ps : List Place) (f k n : ℕ) → judge_from back s ps f k ≡ given n → n ≡ length ps
unfolding judge_from
all_counted back s ps f zero n h = cc
all_counted back s ps f (suc k) n h = all_counted back s ps (f + 1) k n (past_first back s ps f k n h (check (reworded back (proto_at s ps f))) refl).1

-- the reading of an accepted chunk came to its end, and its functions gave the judgement
pub read_through : (back : ℕ → ℕ) (s : List ℕ) (n : ℕ) → judge back s ≡ given n
    → (end : ℕ) × ((walk s).read ≡ here end) × (judge_from back s (walk s).places 0 (length (walk s).places) ≡ given n)
unfolding judge
read_through back s n h = go (walk s).read refl h
  where
    go : (r : Read) → (walk s).read ≡ r → judge_read back s (walk s).places r ≡ given n
        → (end : ℕ) × ((walk s).read ≡ here end) × (judge_from back s (walk s).places 0 (length (walk s).places) ≡ given n)
    go (refused m q) e h = unfold judge_read in absurd (refusal_not_given m 0 q n h)
    go (here end) e h = unfold judge_read in (end, e, h)

-- the count that is given is that of the functions
pub accepted_count : (back : ℕ → ℕ) (s : List ℕ) (n : ℕ) → judge back s ≡ given n → n ≡ length (walk s).places
accepted_count back s n h = let (end, e, j) = read_through back s n h in all_counted back s (walk s).places 0 (length (walk s).places) n j

-- the functions that a walk found are those of a chunk that was read whole
pub accepted_whole : (back : ℕ → ℕ) (s : List ℕ) (functions : Functions) (n : ℕ) → judge back s ≡ given n → places_of functions ≡ (walk s).places
    → Whole s functions
accepted_whole back s functions n h p =
    let (end, e, j) = read_through back s n h in
    record { end = end; walk = λ i. walked (sym e i) (p i) }

-- each function is accepted
pub accepted : (back : ℕ → ℕ) (s : List ℕ) (n f : ℕ) → judge back s ≡ given n → f < n → check (reworded back (proto_at s (walk s).places f)) ≡ fine
accepted back s n f h below =
    let (end, e, j) = read_through back s n h in
    let z : 0 + f ≡ f = omega arith in
    rw z at (all_fine back s (walk s).places 0 (length (walk s).places) n j f (omega (arith, accepted_count back s n h)))
