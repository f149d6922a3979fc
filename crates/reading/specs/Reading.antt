-- Opening and delivering, with what each leaves (document 01, 'Refusals from the state'; document 02, 3). Loading stands in Loading.
use Rattle.std.specs.Prelude.{ℕ, ◌+◌, Bool, true, false, cond, List, ◌++◌, leb, ltb, length, drop}
use Rattle.house_table.specs.House.{lua, word_back}
use Rattle.judging.specs.Judge.{Answer, given, refusal, judge, listing_of}

-- 'The reading is a value that goes in and comes back': whether it is open, and the next function; 'The reading holds the table'
pub record Reading : Type 0 where
  pub is_open : Bool
  pub next : ℕ
  pub table : List ℕ

-- 'a closed reading at function 0', with a table
abbrev pub closed_with : List ℕ → Reading
closed_with table = record { is_open = false; next = 0; table = table }

-- 'as every reading begins': 'Before any load the table is Lua's own.'
abbrev pub closed : Reading
closed = closed_with lua

-- what a call gives and leaves
pub record Outcome : Type 0 where
  pub answer : Answer
  pub reading : Reading
  pub output : List ℕ

-- 'opens the reading at function 0; a refused opening gives a closed reading at function 0'; 'an opening, refused or not, keeps' the
-- table
unfoldable pub opened_by : List ℕ → Answer → Reading
opened_by table (given n) = record { is_open = true; next = 0; table = table }
opened_by table (refusal n f p) = closed_with table

-- 'Opening judges the whole chunk, gives its count of functions'; the output stays as it was
unfoldable pub opening : Reading → List ℕ → List ℕ → Outcome
opening r s out =
    let answer = judge (word_back r.table) s in
    record { answer = answer; reading = opened_by r.table answer; output = out }

-- a refused delivery or load. Demand 1: 'the lent output and the reading keep what they held'
abbrev pub unchanged : Reading → List ℕ → Answer → Outcome
unchanged r out a = record { answer = a; reading = r; output = out }

-- the listing of the next function, 'from the output's start'; 'gives its length and moves on by one. Bytes beyond it
-- stay.' 33: 'output shorter than the listing (last)'. 'Function is the next one, place 0.'
unfoldable pub written : Reading → List ℕ → List ℕ → Outcome
written r bytes out =
    cond (leb (length bytes) (length out))
    (record {
      answer = given (length bytes);
      reading = record { is_open = true; next = r.next + 1; table = r.table };
      output = bytes ++ drop (length bytes) out;
    })
    (unchanged r out (refusal 33 r.next 0))

-- a delivery from an open reading, by the judgement of 'the bytes lent afresh'. 32: 'the next function is not below the
-- lent chunk's count (after the input)'
unfoldable pub delivered_by : Reading → List ℕ → List ℕ → Answer → Outcome
delivered_by r s out (refusal n f p) = unchanged r out (refusal n f p)
delivered_by r s out (given n) =
    cond (ltb r.next n) (written r (listing_of (word_back r.table) s r.next) out) (unchanged r out (refusal 32 r.next 0))

-- a delivery. '31 not opened (before the input is judged)'
unfoldable pub delivery : Reading → List ℕ → List ℕ → Outcome
delivery r s out =
    cond r.is_open (delivered_by r s out (judge (word_back r.table) s)) (unchanged r out (refusal 31 r.next 0))
