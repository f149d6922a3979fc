-- What a delivery writes is followed as the lent words are. Assumes nothing.
use Prim.Native.Nat.{ℕ, ◌<◌}
use mathlib.Core.Bool.{Bool, true, false, cond}
use mathlib.Core.Path.{◌≡◌, refl}
use mathlib.Core.List.{List, ◌++◌}
use lib.Dec.{leb, ltb}
use lib.ListN.{length, drop}
use lib.Seq.{take_at}
use borrow.Author.Tests.{ltb-true}
use Rattle.house_table.specs.House.{word_back}
use Rattle.judging.specs.Judge.{Answer, given, refusal, judge, listing_of}
use Rattle.judging.proofs.Acceptance.{refusal_not_given}
use Rattle.follow.proofs.Demand.{demand_three}
use Rattle.reading.specs.Reading.{Reading, written, delivery, delivered_by, unchanged}
use Rattle.reading.specs.Delivered.{DeliveredFollowed, Printed}

module _ (r : Reading) (s o : List ℕ) (m : ℕ) where
  abbrev back : ℕ → ℕ
  back = word_back r.table

  abbrev bytes : List ℕ
  bytes = listing_of back s r.next

  -- the whole of it, once the judgement and both tests are known
  printed : (n : ℕ) → judge back s ≡ given n → r.next < n
      → Printed back s r.next (length bytes) (bytes ++ drop (length bytes) o)
  unfolding listing_of
  printed n j lt = record {
    lines = take_at bytes (drop (length bytes) o) (length bytes) refl;
    followed = demand_three back s r.next (record { functions = n; judged = j; among = lt });
  }

  -- by the output's length
  by_room : (n : ℕ) → judge back s ≡ given n → r.next < n → (b : Bool) → leb (length bytes) (length o) ≡ b
      → (written r bytes o).answer ≡ given m → Printed back s r.next m (written r bytes o).output
  unfolding written
  by_room n j lt true e h =
      let same : length bytes ≡ m = given_length (length bytes) m (rw e at h) in
      rw (e, ← same) (printed n j lt)
    where
      given_length : (x y : ℕ) → given x ≡ given y → x ≡ y
      given_length x y q = cc
  by_room n j lt false e h = absurd (refusal_not_given 33 r.next 0 m (rw e at h))

  -- by the count of functions
  by_count : (n : ℕ) → judge back s ≡ given n → (b : Bool) → ltb r.next n ≡ b
      → (delivered_by r s o (given n)).answer ≡ given m
      → Printed back s r.next m (delivered_by r s o (given n)).output
  unfolding delivered_by
  by_count n j true e h = rw e (by_room n j (ltb-true r.next n e) (leb (length bytes) (length o)) refl (rw e at h))
  by_count n j false e h = absurd (refusal_not_given 32 r.next 0 m (rw e at h))

  -- by the judgement
  by_judgement : (a : Answer) → judge back s ≡ a → (delivered_by r s o a).answer ≡ given m
      → Printed back s r.next m (delivered_by r s o a).output
  unfolding delivered_by
  by_judgement (given n) j h = by_count n j (ltb r.next n) refl h
  by_judgement (refusal n f q) j h = absurd (refusal_not_given n f q m h)

  -- by whether the reading is open
  by_reading : (b : Bool)
      → (cond b (delivered_by r s o (judge back s)) (unchanged r o (refusal 31 r.next 0))).answer ≡ given m
      → Printed back s r.next m (cond b (delivered_by r s o (judge back s)) (unchanged r o (refusal 31 r.next 0))).output
  by_reading true h = by_judgement (judge back s) refl h
  by_reading false h = absurd (refusal_not_given 31 r.next 0 m h)

pub delivered_followed : DeliveredFollowed
unfolding delivery
delivered_followed r s o m h = by_reading r s o m r.is_open h
