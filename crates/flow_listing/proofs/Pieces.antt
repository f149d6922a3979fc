-- Laws of the pieces of the listing program's output: which piece stands at k, what is left behind it, and what a printed piece leaves
-- in the output. Assumes nothing.
use Prim.Native.Nat.{ℕ, suc, ◌+◌, ◌-◌, ◌≤◌, ◌<◌, min}
use mathlib.Core.Bool.{Bool, true, false, cond}
use mathlib.Core.List.{List, [], ◌∷◌, ◌++◌, append_assoc}
use mathlib.Core.Path.{◌≡◌, refl, sym, ap, ◌∙◌}
use native.Mathlib.Omega.{arith}
use borrow.Author.Tests.{lt-ltb, le-ltb, ltb-true, ltb-false}
use lib.Dec.{ltb}
use lib.ListN.{length, length-append, take, drop, get_or, get_or-eq_default}
use lib.Seq.{get_or_at, take_at, length-take-le}
use Rattle.lines.specs.Out.{Out, output, largest_usize, puts}
use Rattle.lines.proofs.Puts.{puts_length, puts_fit, puts_at}
use Rattle.basics.specs.Range.{over, only}
use Rattle.basics.proofs.Range.{over_length, over_split}
use Rattle.house_table.specs.House.{lua, word_back}
use Rattle.lua51_deserializer.specs.Chunk.{walk, most_functions}
use Rattle.lua51_deserializer.specs.Walked.{places_of}
use Rattle.lua51_deserializer.specs.declared.chunk.Functions.{Functions}
use Rattle.judging.specs.Judge.{Answer, given, refusal, judge, listing_of}
use Rattle.judging.specs.Refusal.{refusal_of, refusal_line}
use Rattle.judging.specs.Answers.{answer_of}
use Rattle.judging.specs.declared.refusal.Refusal.{Refusal}
use Rattle.judging.proofs.Acceptance.{accepted, accepted_count, accepted_whole}
use Rattle.judging.proofs.Judging.{count_whole, few_functions}
use Rattle.judging.proofs.Refusals.{refused, line_length}
use Rattle.std.proofs.Common.{Result, Ok, Err}
use Rattle.block_lines.specs.Lines.{run_numbers}
use Rattle.listing.specs.Printed.{Lists}
use Rattle.reading.specs.Program.{buffer, by_lua, listings, pieces_for, pieces_by, pieces}
use Rattle.input.specs.Prefix.{IsPrefixLen}
use Rattle.flow_listing.specs.Run.{Listable, line_of, listings_below, left, Reached, After}

-- ------------------------------------------------------------ what is left

-- one listing more
below_more : (s : List ℕ) (f : ℕ) → listings_below s (f + 1) ≡ listings_below s f ++ (listing_of by_lua s f ∷ [])
unfolding over
below_more s f = let z : 0 + f ≡ f = omega arith in rw z at (over_split (λ g. only (listing_of by_lua s g)) 0 f 1)

-- of n functions the listings of those below f fit the buffer
module _ (s : List ℕ) (n f : ℕ) where
  -- the next fits
  listings_next : f < n → length (listing_of by_lua s f) ≤ buffer → listings by_lua s f (n - f) ≡ listing_of by_lua s f ∷ listings by_lua s (f + 1) (n - (f + 1))
  unfolding listings
  listings_next below fits =
      let more : n - f ≡ suc (n - (f + 1)) = omega arith in
      rw (more, le-ltb buffer (length (listing_of by_lua s f)) fits)

  listings_turn : f < n → length (listing_of by_lua s f) ≤ buffer
      → listings_below s f ++ listings by_lua s f (n - f) ≡ listings_below s (f + 1) ++ listings by_lua s (f + 1) (n - (f + 1))
  listings_turn below fits =
      rw (listings_next below fits, below_more s f)
      (sym (append_assoc (listings_below s f) (listing_of by_lua s f ∷ []) (listings by_lua s (f + 1) (n - (f + 1)))))

  -- the next does not
  listings_short : f < n → buffer < length (listing_of by_lua s f) → listings by_lua s f (n - f) ≡ refusal_line 33 f 0 ∷ []
  unfolding listings
  listings_short below long =
      let more : n - f ≡ suc (n - (f + 1)) = omega arith in
      rw (more, lt-ltb buffer (length (listing_of by_lua s f)) long)

  -- none is left
  listings_done : n ≤ f → listings by_lua s f (n - f) ≡ []
  unfolding listings
  listings_done h = let none : n - f ≡ 0 = omega arith in rw none

-- none is printed yet
pub reached_none : (s : List ℕ) (answer : Result ℕ Refusal) (functions : Functions) (table : List ℕ) → table ≡ lua
    → answer_of answer ≡ judge (word_back table) s → places_of functions ≡ (walk s).places → Reached s answer functions 0
unfolding pieces_by pieces_for over
reached_none s answer functions table own e p = record { judged = rw own at e; places = p; pieces = start (judge by_lua s) }
  where
    start : (a : Answer) → pieces_for by_lua s a ≡ listings_below s 0 ++ left s a 0
    start (given n) = let all : n - 0 ≡ n = omega arith in rw all
    start (refusal n f p) = refl

module _ (s : List ℕ) (answer : Result ℕ Refusal) (functions : Functions) (k : ℕ) (reached : Reached s answer functions k) where
  below_count : length (listings_below s k) ≡ k
  below_count = over_length (listing_of by_lua s) 0 k

  -- the piece at k is the first that is left, and as many pieces are left behind it
  first_left : (x : List ℕ) (xs : List (List ℕ)) → left s (judge by_lua s) k ≡ x ∷ xs → (get_or (pieces s) k [] ≡ x) × (length (pieces s) ≡ k + 1 + length xs)
  first_left x xs e =
      let all : pieces s ≡ listings_below s k ++ (x ∷ xs) = rw e at reached.pieces in
      (rw all (get_or_at (listings_below s k) x xs [] k below_count), rw all (simp length-append (omega (arith, below_count))))

  -- a refused input has its X line only
  pub piece_refused : (x : Refusal) → answer ≡ Err x → (line_of (refusal_of x) ≡ get_or (pieces s) k []) × After s answer functions k true
  piece_refused x e =
      let judged : judge by_lua s ≡ refusal_of x = sym reached.judged ∙ ap answer_of e in
      let is = (refused x).is in
      let first = first_left (line_of (refusal_of x)) [] (rw (judged, is)) in
      (sym first.0, omega (arith, first.1))

  module _ (n : ℕ) (e : answer ≡ Ok n) where
    judged_given : judge by_lua s ≡ given n
    judged_given = sym reached.judged ∙ ap answer_of e

    few : n ≤ most_functions
    few =
        let whole = accepted_whole by_lua s functions n judged_given reached.places in
        omega (arith, accepted_count by_lua s n judged_given, count_whole whole, few_functions whole)

    -- all functions are listed
    pub piece_none : n ≤ k → ([] ≡ get_or (pieces s) k []) × After s answer functions k true
    piece_none all =
        let none : pieces s ≡ listings_below s k ++ [] = rw (judged_given, listings_done s n k all) at reached.pieces in
        let long : length (pieces s) ≡ k = rw none (simp length-append (omega (arith, below_count))) in
        (sym (get_or-eq_default (pieces s) [] {n = k} (omega arith)), omega arith)

    pub listable : k < n → Listable s functions k
    listable below = record { accepted = record { functions = n; judged = judged_given; among = below }; places = reached.places }

    -- the next listing, or 33
    pub piece_next : k < n → (last : Bool) → last ≡ ltb buffer (length (listing_of by_lua s k))
        → (cond last (refusal_line 33 k 0) (listing_of by_lua s k) ≡ get_or (pieces s) k []) × After s answer functions k last
    piece_next below true long =
        let first = first_left (refusal_line 33 k 0) [] (rw judged_given (listings_short s n k below (ltb-true buffer (length (listing_of by_lua s k)) (sym long)))) in
        (sym first.0, omega (arith, first.1))
    piece_next below false fits =
        let room = ltb-false buffer (length (listing_of by_lua s k)) (sym fits) in
        let turn : pieces s ≡ listings_below s (k + 1) ++ listings by_lua s (k + 1) (n - (k + 1)) = rw judged_given at reached.pieces ∙ listings_turn s n k below room in
        let first = first_left (listing_of by_lua s k) (listings by_lua s (k + 1) (n - (k + 1))) (rw judged_given (listings_next s n k below room)) in
        (sym first.0, (omega (arith, few), record { judged = reached.judged; places = reached.places; pieces = rw judged_given turn }))

    -- its number is small
    pub next_few : k < n → k < most_functions
    next_few below = omega (arith, few)

-- ------------------------------------------------------------ a function that can be listed

-- what is printed of it is its listing
module _ (s : List ℕ) (functions : Functions) (f : ℕ) (l : Listable s functions f) where
  pub listed : (table : List ℕ) → table ≡ lua → {run out out' : List ℕ} {r : ℕ} → Lists (word_back table) s functions f false run out out' r
      → run_numbers ≤ length run → output out' r ≡ puts (output out 0) (listing_of by_lua s f)
  unfolding listing_of
  listed table own h runs =
      let a = l.accepted in
      let whole = accepted_whole by_lua s functions a.functions a.judged l.places in
      let below : f < functions.count = omega (arith, accepted_count by_lua s a.functions a.judged, count_whole whole) in
      (rw own at h).listed whole.end whole.walk below (accepted by_lua s a.functions f a.judged a.among) runs

-- ------------------------------------------------------------ a piece in the output

-- bytes were put from 0 on, and r is the place behind them
module _ (o o' bytes : List ℕ) (r : ℕ) (e : output o' r ≡ puts (output o 0) bytes) (few : length o ≤ largest_usize) where
  pub put_count : r ≡ min (length bytes) largest_usize
  put_count = ap (λ (x : Out). x.at) e ∙ puts_at (output o 0) bytes (omega arith) ∙ omega arith

  -- where they fit, they are the first r bytes
  pub put_whole : length bytes ≤ length o → (take r o' ≡ bytes) × IsPrefixLen r o'
  put_whole fits =
      let stored = e ∙ puts_fit o bytes fits (omega arith) in
      let same : r ≡ length bytes = ap (λ (x : Out). x.at) stored in
      let left : o' ≡ bytes ++ drop (length bytes) o = ap (λ (x : Out). x.bytes) stored in
      let kept : length o' ≡ length o = ap (λ (x : Out). length x.bytes) e ∙ puts_length (output o 0) bytes in
      let within : r ≤ length o' = omega arith in
      (rw left (take_at bytes (drop (length bytes) o) r (sym same)), (within, sym (length-take-le r o' within)))

-- an X line fits the buffer
pub line_short : (n f p : ℕ) → length (refusal_line n f p) ≤ buffer
line_short n f p = omega (arith, line_length n f p)
