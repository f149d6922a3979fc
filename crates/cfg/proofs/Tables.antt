-- Marks put into arrays. Assumes nothing.
use Prim.Native.Nat.{ℕ, ◌+◌, ◌<◌, ◌≤◌}
use native.Mathlib.Omega.{arith}
use native.Mathlib.Decide.{ℕ_discrete}
use mathlib.Core.Bool.{Bool, true, false, cond}
use mathlib.Core.List.{List, [], ◌∷◌}
use mathlib.Core.Path.{◌≡◌, refl, ◌∙◌}
use mir.Val.{bool_byte}
use lib.Dec.{eqb, ltb}
use lib.ListN.{length, get_or, set, replicate, length-set}
use lib.Seq.{get_or-set_same, get_or-set_other}
use Rattle.std.proofs.lemmas.List.{length-replicate, get_or-replicate}
use borrow.Author.Tests.{lt-ltb, eq-eqb, ne_eqb}
use Rattle.basics.specs.Range.{times}
use Rattle.cfg.specs.Arrays.{bit, put_marks}

-- the number that a test is cast to
pub byte_is : (b : Bool) → bool_byte b ≡ bit b
byte_is true = refl
byte_is false = refl

pub bit_few : (b : Bool) → bit b ≤ 1
bit_few true = omega arith
bit_few false = omega arith

-- an array of 0 with 1 at its start
pub started_at : (n j : ℕ) (a b : List ℕ) → a ≡ replicate n 0 → b ≡ set a 0 1 → j < n → get_or b j 0 ≡ bit (eqb j 0)
started_at n j a b cleared put lt = rw (put, cleared) (go (ℕ_discrete j 0))
  where
    go : Dec (j ≡ 0) → get_or (set (replicate n 0) 0 1) j 0 ≡ bit (eqb j 0)
    go (yes e) = rw e (get_or-set_same (replicate n 0) 0 1 0 (omega (arith, length-replicate {A = ℕ} n 0)))
    go (no d) = rw (ne_eqb j 0 d) (get_or-set_other (replicate n 0) 0 j 1 0 d ∙ get_or-replicate n j 0 0 lt)

either_one : (b : Bool) → cond {A = ℕ} b 1 1 ≡ 1
either_one true = refl
either_one false = refl

pub marked_at : (js a : List ℕ) (j : ℕ) → j < length a → get_or (put_marks js a) j 0 ≡ cond (ltb 0 (times j js)) 1 (get_or a j 0)
unfolding put_marks times
marked_at [] a j lt = refl
marked_at (k ∷ js) a j lt = marked_at js (set a k 1) j (simp length-set lt) ∙ go (ℕ_discrete j k)
  where
    go : Dec (j ≡ k) → cond (ltb 0 (times j js)) 1 (get_or (set a k 1) j 0) ≡ cond (ltb 0 (bit (eqb j k) + times j js)) 1 (get_or a j 0)
    go (yes e) = rw (eq-eqb j k e, lt-ltb 0 (1 + times j js) (omega arith), e, get_or-set_same a k 1 0 (rw e at lt)) (either_one (ltb 0 (times k js)))
    go (no d) =
        let z : 0 + times j js ≡ times j js = omega arith in
        rw (ne_eqb j k d, z, get_or-set_other a k j 1 0 d)
