-- Laws of `adds`: how writers of runs are composed, and what they leave in a buffer. Assumes nothing.
use Prim.Native.Nat.{ℕ, ◌+◌, ◌≤◌, ◌<◌}
use mathlib.Core.Path.{◌≡◌, refl, sym, ap, ◌∙◌}
use mathlib.Core.List.{List, [], ◌∷◌, ◌++◌, append_assoc, append-nil}
use native.Mathlib.Numerals.{add-one}
use native.Mathlib.Decide.{dec_lt}
use native.Mathlib.Omega.{arith}
use borrow.Author.Tests.{lt-ltb, le-ltb}
use lib.ListN.{length, take, set, length-set}
use lib.Seq.{take-suc-set, take-append-le, take_all, length-take-le}
use Rattle.ast.specs.Buffer.{Buffer, buffer, add, adds, Writes}

-- ---- composing

-- one list after another
pub adds_append : (b : Buffer) (x y : List ℕ) → adds b (x ++ y) ≡ adds (adds b x) y
unfolding adds
adds_append b [] y = refl
adds_append b (n ∷ x) y = adds_append (add b n) x y

-- one writer after another
pub adds_then : (b : Buffer) {c d : Buffer} (x y : List ℕ) → c ≡ adds b x → d ≡ adds c y → d ≡ adds b (x ++ y)
adds_then b x y first second = second ∙ (ap (λ (z : Buffer). adds z y) first ∙ sym (adds_append b x y))

-- what a writer wrote
pub wrote : (b : Buffer) {c : Buffer} (xs : List ℕ) → c ≡ adds b xs → Writes b c
wrote b xs e = record { numbers = xs; written = e }

pub adds_none : (b : Buffer) → adds b [] ≡ b
unfolding adds
adds_none b = refl

-- ---- what is left

-- a number in a buffer with a place for it, and in a full one
add_stored : (b : Buffer) (x : ℕ) → b.used < length b.numbers → add b x ≡ buffer (set b.numbers b.used x) (b.used + 1)
unfolding add
add_stored b x h = rw (lt-ltb _ _ h)

add_full : (b : Buffer) (x : ℕ) → length b.numbers ≤ b.used → add b x ≡ b
unfolding add
add_full b x h = rw (le-ltb _ _ h)

-- what the used part of a buffer is after a run: as much of it as the buffer holds
record Holds (b e : Buffer) (xs : List ℕ) : Type 0 where
  within : e.used ≤ length b.numbers
  holds : take e.used e.numbers ≡ take (length b.numbers) (take b.used b.numbers ++ xs)

-- one number, and then what holds of any buffer
holds_more : (b : Buffer) (x : ℕ) (xs : List ℕ) → b.used ≤ length b.numbers
    → ((c : Buffer) → c.used ≤ length c.numbers → Holds c (adds c xs) xs) → Holds b (adds (add b x) xs) (x ∷ xs)
holds_more b x xs h rest = go (dec_lt b.used (length b.numbers))
  where
    stored : Buffer
    stored = buffer (set b.numbers b.used x) (b.used + 1)

    long : length (set b.numbers b.used x) ≡ length b.numbers
    long = length-set b.numbers b.used x

    go : Dec (b.used < length b.numbers) → Holds b (adds (add b x) xs) (x ∷ xs)
    go (yes room) =
        let held = rest stored (rw long (omega arith)) in
        let one : take (b.used + 1) (set b.numbers b.used x) ≡ take b.used b.numbers ++ (x ∷ []) =
        rw add-one (take-suc-set b.numbers b.used x room) in
        rw (add_stored b x room)
        (record { within = rw long at held.within; holds = rw (long, one, append_assoc) at held.holds })
    go (no full) =
        let held = rest b h in
        let all : length b.numbers ≤ length (take b.used b.numbers) = rw (length-take-le b.used b.numbers h) (omega arith) in
        let none : (ys : List ℕ) → take (length b.numbers) (take b.used b.numbers ++ ys) ≡ take (length b.numbers) (take b.used b.numbers) =
        λ ys. take-append-le (length b.numbers) (take b.used b.numbers) ys all in
        rw (add_full b x (omega arith)) (record { within = held.within; holds = held.holds ∙ (none xs ∙ sym (none (x ∷ xs))) })

adds_holds : (b : Buffer) (xs : List ℕ) → b.used ≤ length b.numbers → Holds b (adds b xs) xs
unfolding adds
adds_holds b [] h = record {
  within = h;
  holds = sym (rw (append-nil, take_all (length b.numbers) (take b.used b.numbers) (rw (length-take-le b.used b.numbers h) h)) refl);
}
adds_holds b (x ∷ xs) h = holds_more b x xs h (λ c g. adds_holds c xs g)

-- from the start of a buffer
module _ (l xs : List ℕ) {m : List ℕ} {n : ℕ} (e : buffer m n ≡ adds (buffer l 0) xs) where
  pub run_within : n ≤ length l
  run_within = rw (ap (λ (b : Buffer). b.used) e) (adds_holds (buffer l 0) xs (omega arith)).within

  pub run_held : take n m ≡ take (length l) xs
  run_held = rw (ap (λ (b : Buffer). b.used) e, ap (λ (b : Buffer). b.numbers) e) (adds_holds (buffer l 0) xs (omega arith)).holds
