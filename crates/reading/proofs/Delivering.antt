-- Laws of delivering: what a delivery is in each case, and how the code comes to it. Assumes nothing.
use Prim.Native.Nat.{ℕ, ◌+◌, ◌≤◌, ◌<◌, min}
use native.Mathlib.Omega.{arith}
use mathlib.Core.Bool.{Bool, true, false}
use mathlib.Core.Path.{◌≡◌, ◌∙◌, ap}
use mathlib.Core.List.{List}
use lib.Dec.{leb}
use lib.ListN.{length}
use borrow.Author.Tests.{lt-ltb, le-ltb, lt-leb, le-leb, leb-true}
use Rattle.lines.specs.Out.{Out, output, largest_usize}
use Rattle.lines.proofs.Puts.{puts_at, puts_fit}
use Rattle.basics.proofs.Tests.{either_way}
use Rattle.house_table.specs.House.{word_back}
use Rattle.lua51_deserializer.specs.Chunk.{most_functions}
use Rattle.lua51_deserializer.specs.declared.chunk.Functions.{Functions}
use Rattle.block_lines.specs.Lines.{run_numbers}
use Rattle.listing.specs.Printed.{printed, Lists}
use Rattle.judging.specs.Judge.{given, refusal, judge, listing_of}
use Rattle.judging.specs.Refusal.{refusal_of}
use Rattle.judging.specs.Answers.{Whole}
use Rattle.judging.specs.declared.refusal.Refusal.{Refusal}
use Rattle.judging.proofs.Acceptance.{accepted, accepted_count, accepted_whole}
use Rattle.judging.proofs.Judging.{count_whole, few_functions}
use Rattle.judging.proofs.Refusals.{refused}
use Rattle.reading.specs.Reading.{Reading, Outcome, unchanged, written, delivered_by, delivery}
use Rattle.reading.specs.Opening.{where_it_fits, Next}
use Rattle.reading.specs.Delivered.{Printed}
use Rattle.reading.proofs.Delivered.{delivered_followed}

-- ------------------------------------------------------------ a delivery, case by case

module _ (r : Reading) (s out : List ℕ) where
  -- 31
  pub not_opened : r.is_open ≡ false → unchanged r out (refusal 31 r.next 0) ≡ delivery r s out
  unfolding delivery
  not_opened shut = rw shut

  -- 1 to 15
  pub input_refused : (x : Refusal) → r.is_open ≡ true → refusal_of x ≡ judge (word_back r.table) s → unchanged r out (refusal_of x) ≡ delivery r s out
  unfolding delivery delivered_by
  input_refused x opened j = rw (opened, ← j, (refused x).is)

  -- 32
  pub no_function : (n : ℕ) → r.is_open ≡ true → judge (word_back r.table) s ≡ given n → n ≤ r.next
      → unchanged r out (refusal 32 r.next 0) ≡ delivery r s out
  unfolding delivery delivered_by
  no_function n opened j none = rw (opened, j, le-ltb)

  -- 33, or the listing
  pub next_written : (n : ℕ) → r.is_open ≡ true → judge (word_back r.table) s ≡ given n → r.next < n
      → written r (listing_of (word_back r.table) s r.next) out ≡ delivery r s out
  unfolding delivery delivered_by
  next_written n opened j below = rw (opened, j, lt-ltb)

-- ------------------------------------------------------------ the whole listing, or nothing

-- bytes were printed where the whole of them fits: n were counted, and out' is left
module _ (bytes out out' : List ℕ) (n : ℕ) (e : output out' n ≡ printed true out bytes) (few : length out ≤ largest_usize) where
  pub whole_counted : n ≡ min (length bytes) largest_usize
  whole_counted = either_way (leb (length bytes) (length out))
      (λ fits. ap (λ (o : Out). o.at) (rw fits at e) ∙ puts_at (output out 0) bytes (omega arith) ∙ omega arith)
      (λ short. ap (λ (o : Out). o.at) (rw short at e))

  pub whole_left : out' ≡ where_it_fits bytes out
  whole_left = either_way (leb (length bytes) (length out))
      (λ fits. rw fits (ap (λ (o : Out). o.bytes) (rw fits at e ∙ puts_fit out bytes (leb-true (length bytes) (length out) fits) (omega (arith, leb-true (length bytes) (length out) fits)))))
      (λ short. rw short (ap (λ (o : Out). o.bytes) (rw short at e)))

-- where n were counted
module _ (bytes out : List ℕ) (n : ℕ) (counted : n ≡ min (length bytes) largest_usize) where
  module _ (r : Reading) (out' : List ℕ) (left : out' ≡ where_it_fits bytes out) where
    pub short_by_count : length out < n → unchanged r out' (refusal 33 r.next 0) ≡ written r bytes out
    unfolding written
    short_by_count short = let h : length out < length bytes = omega arith in rw (left, lt-leb (length bytes) (length out) h)

    pub written_by_count : r.is_open ≡ true → n ≤ length out → length out < largest_usize
        → record { answer = given n; reading = record { is_open = r.is_open; next = r.next + 1; table = r.table }; output = out' } ≡ written r bytes out
    unfolding written
    written_by_count opened roomy few =
        let whole : n ≡ length bytes = omega arith in
        let fits : length bytes ≤ length out = omega arith in
        rw (left, whole, opened, le-leb (length bytes) (length out) fits)

-- ------------------------------------------------------------ the next function

module _ (table s : List ℕ) (functions : Functions) (f : ℕ) (next : Next table s functions f) where
  abbrev back : ℕ → ℕ
  back = word_back table

  whole : Whole s functions
  whole = accepted_whole back s functions next.count next.judged next.places

  next_below : f < functions.count
  next_below = omega (arith, next.below, accepted_count back s next.count next.judged, count_whole whole)

  -- its number is small
  pub next_few : f < most_functions
  next_few = omega (arith, next_below, few_functions whole)

  -- what is printed of it is its listing
  pub next_listed : {w : Bool} {run out out' : List ℕ} {r : ℕ} → Lists back s functions f w run out out' r → run_numbers ≤ length run
      → output out' r ≡ printed w out (listing_of back s f)
  unfolding listing_of
  next_listed l runs = l.listed whole.end whole.walk next_below (accepted back s next.count f next.judged next.below) runs

-- ------------------------------------------------------------ demand 3

-- what a delivery wrote is followed as the lent words are
pub delivers : (d : Outcome) (r : Reading) (s out : List ℕ) → d ≡ delivery r s out
    → (d ≡ delivery r s out) × ((m : ℕ) → d.answer ≡ given m → Printed (word_back r.table) s r.next m d.output)
delivers d r s out e = (e, λ m h. rw e (delivered_followed r s out m (rw e at h)))
