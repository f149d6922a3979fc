-- What a load leaves, and that the bytes which load are the lines of permutations. Assumes nothing.
use Prim.Native.Nat.{ℕ}
use mathlib.Core.List.{List}
use mathlib.Core.Path.{◌≡◌, refl, sym}
use Rattle.house_loading.specs.Loading.{load_verdict}
use Rattle.house_loading.specs.TableVerdict.{table_fault_number, table_fault_place, table_bytes}
use Rattle.house_loading.specs.declared.TableFault.{TableFault}
use Rattle.house_loading.proofs.Loading.{only_permutations, numbers_loaded}
use Rattle.house_loading.proofs.Permutations.{all_permutations}
use Rattle.lua51_lifter.specs.Check.{Verdict, fine, wrong}
use Rattle.judging.specs.Judge.{given}
use Rattle.judging.specs.Refusal.{refusal_of}
use Rattle.judging.specs.declared.refusal.Refusal.TheVariants.{Table}
use Rattle.judging.proofs.Acceptance.{refusal_not_given}
use Rattle.reading.specs.Reading.{Reading, unchanged}
use Rattle.reading.specs.Loading.{loaded_by, loading, LoadLeaves, EveryLoad, EveryPermutationLoads}

-- ------------------------------------------------------------ what is promised

module _ (r : Reading) (s out : List ℕ) where
  loads_by : (v : Verdict) → load_verdict s ≡ v → LoadLeaves r s out
  unfolding loading loaded_by
  loads_by fine e = record {
    still = rw e (refl, refl);
    untouched = rw e;
    kept = λ n f p h. absurd (refusal_not_given n f p 0 (sym (rw e at h)));
    permuted = λ n h. rw e (only_permutations s e).permutation;
    lines = λ n h. rw e (only_permutations s e).printed;
  }
  loads_by (wrong n p) e = record {
    still = rw e (refl, refl);
    untouched = rw e;
    kept = λ m f q h. rw e;
    permuted = λ m h. absurd (refusal_not_given n 0 p m (rw e at h));
    lines = λ m h. absurd (refusal_not_given n 0 p m (rw e at h));
  }

pub every_load : EveryLoad
every_load r s out = loads_by r s out (load_verdict s) refl

pub every_permutation_loads : EveryPermutationLoads
unfolding loading
every_permutation_loads r table out h =
    let loads = all_permutations table h in
    rw (loads.not_refused, loads.gives)

-- ------------------------------------------------------------ how the code comes to it

module _ (r : Reading) (s out : List ℕ) where
  pub load_refused : (fault : TableFault) → wrong (table_fault_number fault) (table_fault_place fault) ≡ load_verdict s
      → unchanged r out (refusal_of (Table fault)) ≡ loading r s out
  unfolding loading loaded_by
  load_refused fault e = rw (← e)

  pub load_fine : (table : List ℕ) → fine ≡ load_verdict s → table ≡ table_bytes s
      → record { answer = given 0; reading = record { is_open = r.is_open; next = r.next; table = table }; output = out } ≡ loading r s out
  unfolding loading loaded_by
  load_fine table e q = rw (← e, q, numbers_loaded s (sym e))
