-- The numbers of a call say all that the definition has. Assumes nothing.
use Prim.Native.Nat.{ℕ, zero, suc, ◌+◌, ◌<◌, ◌≤◌}
use native.Mathlib.Omega.{arith}
use mathlib.Core.Bool.{Bool, true, false, cond}
use mathlib.Core.Path.{◌≡◌, refl, sym, ◌∙◌, ap}
use mathlib.Core.List.{List, [], ◌∷◌, ◌++◌}
use lib.Dec.{leb, ltb, eqb}
use lib.ListN.{length, take, drop, set}
use lib.Seq.{take-length}
use borrow.Author.Tests.{lt-ltb, ne_eqb}
use Rattle.lines.specs.Out.{Out, output, largest_usize, put, puts}
use Rattle.lines.proofs.Puts.{puts_count, puts_empty}
use Rattle.house_table.specs.House.{word_back}
use Rattle.lua51_lifter.specs.Check.{Verdict}
use Rattle.lua51_lifter.proofs.Verdicts.{From, not_one, from_on}
use Rattle.judging.specs.Judge.{Answer, given, refusal, judge, listing_of}
use Rattle.house_loading.specs.Loading.{table_of}
use Rattle.house_loading.proofs.Found.{load_from}
use Rattle.judging.specs.Refusal.{refusal_line}
use Rattle.judging.proofs.Refusals.{line_length}
use Rattle.judging.proofs.Since.{Since, gives, refuses, judge_since}
use Rattle.reading.specs.Reading as reading
use Rattle.reading.specs.Reading.{opening, opened_by, delivery, delivered_by, written, unchanged}
use Rattle.reading.specs.Loading.{loading, loaded_by}
use Rattle.rigamel.specs.Numbers.{outcome_of, answer_of, reading_of, numbers_of, answer_numbers, reading_numbers}
use Rattle.rigamel.specs.Told.{Told}
use Rattle.rigamel.specs.declared.Reading.{Reading}

-- ------------------------------------------------------------ numbers read back

answer_back : (a : Answer) → Since 1 a → answer_of (answer_numbers a) ≡ a
unfolding answer_numbers
answer_back (given n) gives = refl
answer_back (refusal n f p) (refuses l) = let e : eqb n 0 ≡ false = ne_eqb n 0 (λ z. omega arith) in rw e

-- a reading's own numbers
reading_kept : (r : Reading) → reading_numbers r.opened (reading_of r) ≡ r
reading_kept r = λ i. record { opened = held r.opened i; next = r.next; table = r.table }
  where
    held : (n : ℕ) → cond (ltb 0 n) n 0 ≡ n
    held zero = refl
    held (suc n) = let e : ltb 0 (suc n) ≡ true = lt-ltb 0 (suc n) (omega arith) in rw e

-- ------------------------------------------------------------ openings

opened_back : (table out : List ℕ) (a : Answer) → Since 1 a
    → outcome_of (numbers_of 1 (record { answer = a; reading = opened_by table a; output = out }))
    ≡ record { answer = a; reading = opened_by table a; output = out }
unfolding opened_by
opened_back table out (given n) h =
    λ i. record { answer = answer_back (given n) h i; reading = opened_by table (given n); output = out }
opened_back table out (refusal n f p) h =
    λ i. record { answer = answer_back (refusal n f p) h i; reading = opened_by table (refusal n f p); output = out }

-- ------------------------------------------------------------ loads and deliveries

module _ (r : Reading) (s out : List ℕ) where
  -- how a load or a delivery ends: refused, and nothing is altered; or given, and the reading is open or closed as it was
  data Ended : reading.Outcome → Type 0 where
    stays : {n f p : ℕ} → 0 < n → Ended (unchanged (reading_of r) out (refusal n f p))
    goes : {m next : ℕ} {is_open : Bool} {table bytes : List ℕ} → ltb 0 r.opened ≡ is_open
        → Ended (record { answer = given m; reading = record { is_open = is_open; next = next; table = table }; output = bytes })

  by_verdict : (numbers : List ℕ) {v : Verdict} → From 34 v → Ended (loaded_by (reading_of r) numbers out v)
  unfolding loaded_by
  by_verdict numbers not_one = goes refl
  by_verdict numbers (from_on {n = n} l) = stays {n = n} (omega arith)

  load_ended : Ended (loading (reading_of r) s out)
  unfolding loading
  load_ended = by_verdict (table_of s) (load_from s)

  by_room : (bytes : List ℕ) → ltb 0 r.opened ≡ true → (b : Bool) → leb (length bytes) (length out) ≡ b
      → Ended (written (reading_of r) bytes out)
  unfolding written
  by_room bytes h true e = rw e (goes h)
  by_room bytes h false e = rw e (stays {n = 33} (omega arith))

  by_count : (n : ℕ) → ltb 0 r.opened ≡ true → (b : Bool) → ltb r.next n ≡ b → Ended (delivered_by (reading_of r) s out (given n))
  unfolding delivered_by
  by_count n h true e =
      let bytes = listing_of (word_back r.table) s r.next in
      rw e (by_room bytes h (leb (length bytes) (length out)) refl)
  by_count n h false e = rw e (stays {n = 32} (omega arith))

  by_judgement : (a : Answer) → Since 1 a → ltb 0 r.opened ≡ true → Ended (delivered_by (reading_of r) s out a)
  unfolding delivered_by
  by_judgement (given n) k h = by_count n h (ltb r.next n) refl
  by_judgement (refusal n f p) (refuses l) h = stays l

  ended : Ended (delivery (reading_of r) s out)
  unfolding delivery
  ended = go (ltb 0 r.opened) refl
    where
      go : (b : Bool) → ltb 0 r.opened ≡ b
          → Ended (cond b (delivered_by (reading_of r) s out (judge (word_back r.table) s)) (unchanged (reading_of r) out (refusal 31 r.next 0)))
      go true e = by_judgement (judge (word_back r.table) s) (judge_since (word_back r.table) s) e
      go false e = stays {n = 31} (omega arith)

  -- what stands for open says so again
  open_back : (b : Bool) → ltb 0 r.opened ≡ b → ltb 0 (cond b r.opened 0) ≡ b
  open_back true e = e
  open_back false e = refl

  ended_back : (o : reading.Outcome) → Ended o → outcome_of (numbers_of r.opened o) ≡ o
  ended_back o (stays {n = n} {f = f} {p = p} l) = λ i. record {
    answer = answer_back (refusal n f p) (refuses l) i;
    reading = reading_of (reading_kept r i);
    output = out;
  }
  ended_back o (goes {m = m} {next = next} {is_open = is_open} {table = table} {bytes = bytes} h) = λ i. record {
    answer = answer_back (given m) gives i;
    reading = record { is_open = open_back is_open h i; next = next; table = table };
    output = bytes;
  }

  refused_keeps : (o : reading.Outcome) → Ended o → ((numbers_of r.opened o).answer.number ≡ 0 → ⊥)
      → ((numbers_of r.opened o).reading ≡ r) × ((numbers_of r.opened o).output ≡ out)
  unfolding answer_numbers
  refused_keeps o (stays l) h = (reading_kept r, refl)
  refused_keeps o (goes l) h = absurd (h refl)

-- ------------------------------------------------------------ the line of a refusal

puts_first : (l : List ℕ) (i b : ℕ) (bs : List ℕ) → suc i ≤ largest_usize
    → (puts (output l i) (b ∷ bs)).bytes ≡ (puts (output (set l i b) (suc i)) bs).bytes
unfolding puts put
puts_first l i b bs h = ap (λ (n : ℕ). (puts (output (set l i b) n) bs).bytes) (omega arith)

-- what is put behind the first byte of an output does not touch it
puts_behind : (x : ℕ) (l : List ℕ) (i : ℕ) (bs : List ℕ) → suc i + length bs ≤ largest_usize
    → (puts (output (x ∷ l) (suc i)) bs).bytes ≡ x ∷ (puts (output l i) bs).bytes
unfolding puts
puts_behind x l i [] h = refl
puts_behind x l i (b ∷ bs) h =
    puts_first (x ∷ l) (suc i) b bs (omega arith)
    ∙ puts_behind x (set l i b) (suc i) bs (omega arith)
    ∙ ap (λ (r : List ℕ). x ∷ r) (sym (puts_first l i b bs (omega arith)))

puts_cut : (l bs : List ℕ) → length bs ≤ largest_usize
    → (puts (output l 0) bs).bytes ≡ take (length l) (bs ++ drop (length bs) l)
unfolding puts
puts_cut [] bs h = ap (λ (o : Out). o.bytes) (puts_empty 0 bs (omega arith))
puts_cut (x ∷ l) [] h = sym (take-length (x ∷ l))
puts_cut (x ∷ l) (b ∷ bs) h =
    puts_first (x ∷ l) 0 b bs (omega arith)
    ∙ puts_behind b l 0 bs (omega arith)
    ∙ ap (λ (r : List ℕ). b ∷ r) (puts_cut l bs (omega arith))

pub told : Told
unfolding opening
told = record {
  loaded = λ r s out. ended_back r s out (loading (reading_of r) s out) (load_ended r s out);
  opened = λ r s out. opened_back r.table out (judge (word_back r.table) s) (judge_since (word_back r.table) s);
  delivered = λ r s out. ended_back r s out (delivery (reading_of r) s out) (ended r s out);
  load_refused = λ r s out h. (refused_keeps r s out (loading (reading_of r) s out) (load_ended r s out) h).0;
  refused = λ r s out. refused_keeps r s out (delivery (reading_of r) s out) (ended r s out);
  line_short = line_length;
  line_counted = λ out n f p. puts_count out (refusal_line n f p) (omega (arith, line_length n f p));
  line_cut = λ out n f p. puts_cut out (refusal_line n f p) (omega (arith, line_length n f p));
}
