-- Walks that were read: where each part ends, and what holds of each function that is placed. Assumes nothing.
use mathlib.Core.Path.{◌≡◌, refl, ◌∙◌}
use mathlib.Core.List.{List, [], ◌∷◌, ◌++◌}
use Prim.Native.Nat.{ℕ, zero, suc, ◌<◌}
use native.Mathlib.Omega.{arith}
use lib.ListN.{length, get_or}
use lib.Seq.{get_or-append_seam, set-append_seam, append_snoc}
use Rattle.basics.specs.Range.{only}
use Rattle.lua51_deserializer.specs.Chunk.{Read, here, refused, Place, nowhere, Walk, from, finish}
use Rattle.lua51_deserializer.proofs.FieldEnds.{never}

-- a walk that goes on from where the reading stands
pub from_here : (r : Read) (ps : List Place) (f : List Place → ℕ → Walk) (j : ℕ) → (from r ps f).read ≡ here j
    → (i : ℕ) × (r ≡ here i) × ((f ps i).read ≡ here j)
from_here (here i) ps f j e = (i, refl, e)
from_here (refused n p) ps f j e = never e

-- a function that was placed behind ps, and more functions since, ends: its tail stands at t
pub finished : (s : List ℕ) (ps more qs : List Place) (i parent t : ℕ)
    → qs ≡ (ps ++ only (record { start = i; tail = 0; parent = parent })) ++ more
    → (finish s (length ps) qs t).places ≡ ps ++ record { start = i; tail = t; parent = parent } ∷ more
unfolding finish
finished s ps more qs i parent t e =
    let p : Place = record { start = i; tail = 0; parent = parent } in
    let q : Place = record { start = i; tail = t; parent = parent } in
    rw (e ∙ append_snoc ps p more, get_or-append_seam ps p more nowhere) (set-append_seam ps p more q)

-- ------------------------------------------------------------ places, each with P

pub data All (P : Place → Type 0) : List Place → Type 0 where
  none : All P []
  one : {p : Place} {ps : List Place} → P p → All P ps → All P (p ∷ ps)

pub all_append : {P : Place → Type 0} {ps qs : List Place} → All P ps → All P qs → All P (ps ++ qs)
all_append none g = g
all_append (one h hs) g = one h (all_append hs g)

pub all_at : {P : Place → Type 0} {ps : List Place} → All P ps → (f : ℕ) → f < length ps → P (get_or ps f nowhere)
all_at none f lt = absurd (omega arith)
all_at (one h hs) zero lt = h
all_at (one h hs) (suc f) lt = all_at hs f (omega arith)
