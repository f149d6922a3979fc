-- Laws by which the code judges a chunk: its functions one after the other, and each in the buffers. Assumes nothing.
use mathlib.Core.Path.{◌≡◌, refl, sym, ◌∙◌, ap, subst}
use mathlib.Core.List.{List}
use Prim.Native.Nat.{ℕ, suc, ◌+◌, ◌-◌, ◌*◌, ◌≤◌, ◌<◌}
use native.Mathlib.Omega.{arith}
use lib.ListN.{length, take}
use Prim.{Unit}
use Rattle.std.specs.Prelude.{Result, Ok, Err}
use Rattle.std.specs.Result.{MatchResult, IsErrAnd}
use Rattle.lua51_instruction.specs.Proto.{reworded}
use Rattle.house_table.specs.House.{opcode_count, inverse_of, word_back, word_by}
use Rattle.house_table.proofs.Inverse.{by_inverse}
use Rattle.lua51_deserializer.specs.Chunk.{here, refused, Place, Walk, walked, walk, proto_at, most, most_words, most_functions}
use Rattle.lua51_function.specs.Function.{Stands, held_of, Loads, Holds}
use Rattle.lua51_deserializer.specs.Cursor.{chunk_fault_number, chunk_fault_place}
use Rattle.lua51_deserializer.specs.declared.chunk.Functions.{Functions}
use Rattle.lua51_deserializer.specs.declared.fields.ChunkFault.{ChunkFault}
use Rattle.lua51_function.specs.declared.function.Loaded.{Loaded}
use Rattle.lua51_deserializer.proofs.Places.{places_length}
use Rattle.lua51_function.proofs.Buffers.{filled_length}
use Rattle.lua51_function.proofs.WholeChunk.{whole_chunk}
use Rattle.lua51_function.proofs.WholeFunction.{holds_each}
use Rattle.lua51_lifter.specs.Check.{check}
use Rattle.lua51_lifter.specs.Verdict.{verdict_of}
use Rattle.lua51_lifter.specs.declared.verdict.FunctionFault.{FunctionFault}
use Rattle.judging.specs.Judge.{Answer, given, judged, judge_from, judge_read, judge}
use Rattle.judging.specs.Refusal.{refusal_of}
use Rattle.judging.specs.Answers.{Whole, Fits}
use Rattle.judging.specs.declared.refusal.Refusal.{Refusal}
use Rattle.judging.specs.declared.refusal.Refusal.TheVariants.{Chunk, Function}

-- ------------------------------------------------------------ a chunk that was read whole

module _ {s : List ℕ} {functions : Functions} (whole : Whole s functions) where
  pub read_whole : (walk s).read ≡ here whole.end
  read_whole = sym (ap (λ (w : Walk). w.read) whole.walk)

  pub count_whole : length (walk s).places ≡ functions.count
  count_whole = sym (ap (λ (w : Walk). length w.places) whole.walk) ∙ places_length functions

  pub few_functions : functions.count ≤ most_functions
  few_functions = omega (arith, count_whole, (whole_chunk s whole.end read_whole).functions)

  -- its judgement is that of its functions
  pub judge_whole : (back : ℕ → ℕ) → judge_from back s (walk s).places 0 (functions.count - 0) ≡ judge back s
  unfolding judge judge_read
  judge_whole back = let e : functions.count - 0 ≡ functions.count = omega arith in rw (e, read_whole, count_whole)

-- a function is held whole by buffers with room
module _ {back : ℕ → ℕ} {s : List ℕ} {functions : Functions} {f : ℕ} {r : Loaded} {ws ws' ks ks' ns ns' us us' : List ℕ} {nw nk nm : ℕ} (whole : Whole s functions)
    (below : f < functions.count) (fits : Fits (proto_at s (walk s).places f) nw nk nm)
    (lw : length ws ≡ nw) (lk : length ks ≡ nk) (ln : length ns ≡ most_functions) (lu : length us ≡ most_functions)
    (loads : Loads back s (held_of functions) f r ws ws' ks ks' ns ns' us us') where
  pub holds_function : Holds back s (walk s).places f r ws' ks' ns' us'
  holds_function =
      holds_each back s (Ok whole.end) functions whole.end f r ws ws' ks ks' ns ns' us us' whole.walk refl below loads (record { words = omega (arith, fits.words); nested = omega arith; nups = omega arith })

  -- the kinds of its constants too
  pub stands_function : Stands (reworded back (proto_at s (walk s).places f)) r.head (take r.words ws') (take r.kinds ks') (take r.nested ns') (take r.nested us')
  stands_function =
      let p = proto_at s (walk s).places f in
      let kinds : p.kinds ≡ take r.kinds ks' = holds_function.kinds (omega (arith, fits.kinds, filled_length loads.kinds)) in
      subst (λ (l : List ℕ). Stands (reworded back p) r.head (take r.words ws') l (take r.nested ns') (take r.nested us')) kinds holds_function.stands

-- ------------------------------------------------------------ the walk over a chunk

-- where it ends in a refusal, that is the judgement
pub judge_refused : (back : ℕ → ℕ) (s : List ℕ) (ps : List Place) (fault : ChunkFault)
    → walked (refused (chunk_fault_number fault) (chunk_fault_place fault)) ps ≡ walk s → refusal_of (Chunk fault) ≡ judge back s
unfolding judge judge_read
judge_refused back s ps fault e = rw (← ap (λ (v : Walk). v.read) e)

-- by the inverse of a table it is judged as by the table
pub judged_by : (s table inverse : List ℕ) → inverse ≡ inverse_of table → length table ≡ opcode_count
    → judge (word_by inverse) s ≡ judge (word_back table) s
judged_by s table inverse e long = ap (λ (back : ℕ → ℕ). judge back s) (ap word_by e ∙ by_inverse table long)

-- ------------------------------------------------------------ one function after the other

-- of n functions those before f are accepted, and f is refused, or accepted too
module _ (back : ℕ → ℕ) (s : List ℕ) (ps : List Place) (n f : ℕ) (below : f < n) where
  abbrev rest : Answer
  rest = judge_from back s ps (f + 1) (n - (f + 1))

  judge_turn : judge_from back s ps f (n - f) ≡ judged f (check (reworded back (proto_at s ps f))) rest
  unfolding judge_from
  judge_turn = let m : n - f ≡ suc (n - (f + 1)) = omega arith in rw m

  -- q is what is found of function f, with a fault as a refusal of f
  module _ {Q : FunctionFault → Refusal → Type 0} (same : (fault : FunctionFault) (x : Refusal) → Q fault x → x ≡ Function f fault)
      {q : Result (Unit {0}) Refusal} where
    pub turn_refused : (x : Refusal) → q ≡ Err x → (r : Result (Unit {0}) FunctionFault) → verdict_of r ≡ check (reworded back (proto_at s ps f))
        → MatchResult r (λ u. q ≡ Ok u) (λ fault. IsErrAnd q (Q fault)) → refusal_of x ≡ judge_from back s ps f (n - f)
    turn_refused x h (Ok u) e m = let z : ⊥ = cc in absurd z
    turn_refused x h (Err fault) e m = let y = same fault x (rw h at m) in rw y (sym (judge_turn ∙ rw (← e)))

    pub turn_passed : (t : Unit {0}) → q ≡ Ok t → (r : Result (Unit {0}) FunctionFault) → verdict_of r ≡ check (reworded back (proto_at s ps f))
        → MatchResult r (λ u. q ≡ Ok u) (λ fault. IsErrAnd q (Q fault)) → rest ≡ judge_from back s ps f (n - f)
    turn_passed t h (Ok u) e m = sym (judge_turn ∙ rw (← e))
    turn_passed t h (Err fault) e m = absurd (rw h at m)

-- no function is left
pub functions_passed : (back : ℕ → ℕ) (s : List ℕ) (ps : List Place) (n f : ℕ) → n ≤ f → judge_from back s ps f (n - f) ≡ given (length ps)
unfolding judge_from
functions_passed back s ps n f h = let z : n - f ≡ 0 = omega arith in rw z

-- ------------------------------------------------------------ room

-- room has a place for each function of a chunk that was read whole: for the most words and constants, or for as many as the chunk has
-- bytes for
module _ {s : List ℕ} {functions : Functions} (whole : Whole s functions) (f : ℕ) (below : f < functions.count) where
  inside : f < length (walk s).places
  inside = omega (arith, count_whole whole)

  pub fits_long : (ws ks ms : ℕ) → most_words ≤ ws → most ≤ ks → most_words < ms → Fits (proto_at s (walk s).places f) ws ks ms
  fits_long ws ks ms w k m =
      let h = (whole_chunk s whole.end (read_whole whole)).limited f inside in
      record { words = omega arith; kinds = omega arith; marks = omega arith }

  pub fits_short : (ws ks ms : ℕ) → length s ≤ 4 * ws → length s ≤ ks → ws < ms → Fits (proto_at s (walk s).places f) ws ks ms
  fits_short ws ks ms w k m =
      let h = (whole_chunk s whole.end (read_whole whole)).taken f inside in
      record { words = omega arith; kinds = omega arith; marks = omega arith }
