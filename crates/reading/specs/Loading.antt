-- Loading a house table of opcode numbers (document 02, 3), with what a load leaves.
use Rattle.std.specs.Prelude.{ℕ, List, ◌≡◌}
use Rattle.house_table.specs.House.{Permutation}
use Rattle.house_loading.specs.Loading.{table_of, load_verdict, table_lines}
use Rattle.lua51_lifter.specs.Check.{Verdict, fine, wrong}
use Rattle.judging.specs.Judge.{given, refusal}
use Rattle.reading.specs.Reading.{Reading, Outcome, unchanged}

-- 'A refused load keeps the former table; no load moves the reading.' 34 and 35 have 'function 0'. A load that is not refused has nothing to
-- give but 0
unfoldable pub loaded_by : Reading → List ℕ → List ℕ → Verdict → Outcome
loaded_by r numbers out fine =
    record { answer = given 0; reading = record { is_open = r.is_open; next = r.next; table = numbers }; output = out }
loaded_by r numbers out (wrong n p) = unchanged r out (refusal n 0 p)

-- loading the bytes s; the output stays as it was
unfoldable pub loading : Reading → List ℕ → List ℕ → Outcome
loading r s out = loaded_by r (table_of s) out (load_verdict s)

-- ------------------------------------------------------------ what is promised of a load

-- the bytes s are loaded into the reading r
pub record LoadLeaves (r : Reading) (s out : List ℕ) : Type 0 where
  -- 'no load moves the reading', nor touches the output
  pub still : ((loading r s out).reading.is_open ≡ r.is_open) × ((loading r s out).reading.next ≡ r.next)
  pub untouched : (loading r s out).output ≡ out
  -- 'A refused load keeps the former table'
  pub kept : (n f p : ℕ) → (loading r s out).answer ≡ refusal n f p → (loading r s out).reading ≡ r
  -- the table of one that is not refused is a permutation, whose lines the bytes are
  pub permuted : (n : ℕ) → (loading r s out).answer ≡ given n → Permutation (loading r s out).reading.table
  pub lines : (n : ℕ) → (loading r s out).answer ≡ given n → s ≡ table_lines (loading r s out).reading.table

abbrev pub EveryLoad : Type 0
EveryLoad = (r : Reading) (s out : List ℕ) → LoadLeaves r s out

-- and the lines of every permutation load it
abbrev pub EveryPermutationLoads : Type 0
EveryPermutationLoads =
    (r : Reading) (table out : List ℕ) → Permutation table → loading r (table_lines table) out ≡ loaded_by r table out fine
