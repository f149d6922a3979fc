-- Openings and deliveries under a house table are those of the chunk put back under Lua's own. Assumes nothing.
use Prim.Native.Nat.{ℕ}
use mathlib.Core.Bool.{Bool, true, false, cond}
use mathlib.Core.List.{List}
use mathlib.Core.Path.{◌≡◌, refl}
use lib.Dec.{leb, ltb}
use lib.ListN.{length}
use borrow.Author.Tests.{ltb-true}
use Rattle.house_table.specs.House.{lua, word_back}
use Rattle.house_chunk.specs.PutBack.{chunk_back}
use Rattle.judging.specs.Judge.{Answer, given, refusal, judge, listing_of}
use Rattle.judging.proofs.House.{every_table}
use Rattle.reading.specs.Reading.{Reading, opened_by, opening, unchanged, written, delivered_by, delivery}
use Rattle.reading.specs.House.{with_table, left_with, EveryCall}

module _ (r : Reading) (s out : List ℕ) where
  abbrev table : List ℕ
  table = r.table

  abbrev put_back : List ℕ
  put_back = chunk_back table s

  abbrev under_lua : Reading
  under_lua = with_table lua r

  opened_as : (a : Answer) → opened_by table a ≡ with_table table (opened_by lua a)
  unfolding opened_by
  opened_as (given n) = refl
  opened_as (refusal n f p) = refl

  pub same_opening : opening r s out ≡ left_with table (opening under_lua put_back out)
  unfolding opening
  same_opening = rw (every_table table s).judged (λ i. record {
    answer = judge (word_back lua) put_back;
    reading = opened_as (judge (word_back lua) put_back) i;
    output = out;
  })

  written_as : (bytes : List ℕ) → written r bytes out ≡ left_with table (written under_lua bytes out)
  unfolding written
  written_as bytes = go (leb (length bytes) (length out)) refl
    where
      go : (b : Bool) → leb (length bytes) (length out) ≡ b → written r bytes out ≡ left_with table (written under_lua bytes out)
      go true e = rw e
      go false e = rw e

  by_count : (n : ℕ) → judge (word_back table) s ≡ given n → (b : Bool) → ltb r.next n ≡ b
      → delivered_by r s out (given n) ≡ left_with table (delivered_by under_lua put_back out (given n))
  unfolding delivered_by
  by_count n j true e =
      rw (e, (every_table table s).listed n r.next j (ltb-true r.next n e)) (written_as (listing_of (word_back lua) put_back r.next))
  by_count n j false e = rw e

  by_judgement : (a : Answer) → judge (word_back table) s ≡ a
      → delivered_by r s out a ≡ left_with table (delivered_by under_lua put_back out a)
  by_judgement (given n) j = by_count n j (ltb r.next n) refl
  by_judgement (refusal n f p) j = unfold delivered_by in refl

  by_reading : (b : Bool) → cond b (delivered_by r s out (judge (word_back table) s)) (unchanged r out (refusal 31 r.next 0))
      ≡ left_with table (cond b (delivered_by under_lua put_back out (judge (word_back lua) put_back)) (unchanged under_lua out (refusal 31 r.next 0)))
  by_reading true = rw (← (every_table table s).judged) (by_judgement (judge (word_back table) s) refl)
  by_reading false = refl

  pub same_delivery : delivery r s out ≡ left_with table (delivery under_lua put_back out)
  unfolding delivery
  same_delivery = by_reading r.is_open

pub every_call : EveryCall
every_call r s out = record { opened = same_opening r s out; delivered = same_delivery r s out }
