-- Laws of the places of functions that a walk keeps in arrays. Assumes nothing.
use mathlib.Core.Path.{◌≡◌, refl, sym, ◌∙◌}
use mathlib.Core.List.{List, ◌++◌}
use Prim.Native.Nat.{ℕ, ◌+◌, ◌<◌}
use native.Mathlib.Omega.{arith}
use lib.ListN.{length, get_or, set}
use lib.Seq.{get_or-set_same, get_or-set_other}
use Rattle.lua51_deserializer.specs.Chunk.{Place, nowhere}
use Rattle.lua51_deserializer.specs.Walked.{place_at, places_of}
use Rattle.basics.specs.Range.{over, only}
use Rattle.lua51_deserializer.specs.declared.chunk.Functions.{Functions}
use Rattle.basics.proofs.Range.{over_split, over_length, over_at, over_same, over_set}

place : {a b c d e f : ℕ} → a ≡ b → c ≡ d → e ≡ f → ◌≡◌ {A = Place} (record { start = a; tail = c; parent = e }) (record { start = b; tail = d; parent = f })
place p q r = λ i. record { start = p i; tail = q i; parent = r i }

module _ (starts tails parents : List ℕ) (n : ℕ) where
  -- one function more
  pub placed : (start parent : ℕ) → n < length starts → n < length tails → n < length parents
      → over (λ f. only (place_at (set starts n start) (set tails n 0) (set parents n parent) f)) 0 (n + 1)
      ≡ over (λ f. only (place_at starts tails parents f)) 0 n ++ only (record { start = start; tail = 0; parent = parent })
  unfolding over
  placed start parent hs ht hp =
      let z : 0 + n ≡ n = omega arith in
      let new = place_at (set starts n start) (set tails n 0) (set parents n parent) in
      let old : over (λ f. only (new f)) 0 n ≡ over (λ f. only (place_at starts tails parents f)) 0 n =
      over_same new (place_at starts tails parents) 0 n (λ j l.
      let d : 0 + j ≡ n → ⊥ = λ e. omega arith in
      place (get_or-set_other starts n (0 + j) start 0 d) (get_or-set_other tails n (0 + j) 0 0 d) (get_or-set_other parents n (0 + j) parent 0 d)) in
      let last : new n ≡ record { start = start; tail = 0; parent = parent } =
      place (get_or-set_same starts n start 0 hs) (get_or-set_same tails n 0 0 ht) (get_or-set_same parents n parent 0 hp) in
      over_split (λ f. only (new f)) 0 n 1 ∙ rw (old, z, last)

  -- a function's tail
  pub tailed : (m at : ℕ) → m < length tails
      → (let old = get_or (over (λ f. only (place_at starts tails parents f)) 0 n) m nowhere in
      over (λ f. only (place_at starts (set tails m at) parents f)) 0 n
      ≡ set (over (λ f. only (place_at starts tails parents f)) 0 n) m (record { start = old.start; tail = at; parent = old.parent }))
  tailed m at h =
      sym
      (over_set (place_at starts tails parents) (place_at starts (set tails m at) parents) _ 0 n m
      (λ l.
      let z : 0 + m ≡ m = omega arith in
      let there : get_or (over (λ f. only (place_at starts tails parents f)) 0 n) m nowhere ≡ place_at starts tails parents m = rw z at (over_at (place_at starts tails parents) 0 n m nowhere l) in
      rw (there, z) (place refl (sym (get_or-set_same tails m at 0 h)) refl))
      (λ j l d. place refl (sym (get_or-set_other tails m (0 + j) at 0 (λ e. d (omega arith)))) refl))

-- as many as have begun
pub places_length : (t : Functions) → length (places_of t) ≡ t.count
places_length t = over_length (place_at t.starts t.tails t.parents) 0 t.count
