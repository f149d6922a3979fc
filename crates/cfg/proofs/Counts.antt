-- Edges counted at the words that they go to. Assumes nothing.
use Prim.Native.Nat.{ℕ, zero, suc, ◌+◌, ◌<◌, min}
use native.Mathlib.Omega.{arith}
use native.Mathlib.Decide.{ℕ_discrete}
use mathlib.Core.List.{List, [], ◌∷◌}
use mathlib.Core.Path.{◌≡◌, refl, ap, ◌∙◌}
use lib.Dec.{eqb, ltb}
use lib.ListN.{length, get_or, set, replicate, length-set}
use lib.Seq.{get_or-set_same, get_or-set_other}
use borrow.Author.Tests.{ltb-true, ltb-false, eq-eqb, ne_eqb}
use Rattle.lua51_instruction.specs.Proto.{Proto, size}
use Rattle.basics.specs.Range.{sum, times, table}
use Rattle.basics.proofs.Tests.{either_way}
use Rattle.cfg.specs.Graph.{exits, entering}
use Rattle.cfg.specs.Arrays.{bit, leaders, more, one_more, entered, exits_by, entering_by}
use Rattle.cfg.proofs.Tables.{bit_few, started_at}
use Rattle.basics.proofs.Tables.{sum_more, sum_same}
use Rattle.basics.proofs.Range.{over_same}
use Rattle.cfg.proofs.Numbering.{marks_length, mark_leads}

-- ------------------------------------------------------------ counts

-- one edge more than e, of which none, one and more are told apart
one_more_lem : (c e : ℕ) → c ≡ min e more → one_more c ≡ min (e + 1) more
one_more_lem c e h = either_way (ltb c more)
    (λ t. rw t (omega (arith, ltb-true c more t)))
    (λ t. rw t (omega (arith, ltb-false c more t)))

entered_at : (ts a : List ℕ) (t e : ℕ) → t < length a → get_or a t 0 ≡ min e more → get_or (entered ts a) t 0 ≡ min (e + times t ts) more
unfolding entered times
entered_at [] a t e lt h = omega arith
entered_at (u ∷ ts) a t e lt h = entered_at ts b t (e + bit (eqb t u)) (simp length-set lt) (go (ℕ_discrete t u)) ∙ ap (λ (n : ℕ). min n more) (omega arith)
  where
    b : List ℕ
    b = set a u (one_more (get_or a u 0))

    go : Dec (t ≡ u) → get_or b t 0 ≡ min (e + bit (eqb t u)) more
    go (yes q) = rw (eq-eqb t u q) (rw q (get_or-set_same a u (one_more (get_or a u 0)) 0 (rw q at lt)) ∙ one_more_lem (get_or a u 0) e (rw q at h))
    go (no d) = rw (ne_eqb t u d, get_or-set_other a u t (one_more (get_or a u 0)) 0 d) (omega arith)

-- an array of 0, and the entry's edge counted in it
first_none : (n : ℕ) → get_or (replicate {A = ℕ} n 0) 0 0 ≡ 0
first_none zero = refl
first_none (suc n) = refl

pub entry_at : (n : ℕ) (a b : List ℕ) → a ≡ replicate n 0 → b ≡ set a 0 (one_more (get_or a 0 0)) → (t : ℕ) → t < n → get_or b t 0 ≡ bit (eqb t 0)
entry_at n a b cleared put t lt =
    let z : get_or a 0 0 ≡ 0 = rw cleared (first_none n) in
    started_at n t a b cleared (rw z at put) lt

-- ------------------------------------------------------------ edges

module _ (p : Proto) (marks : List ℕ) where
  module _ (i t : ℕ) where
    -- the counts of one word more
    pub counts_turn : (ts a : List ℕ) → t < length a → times t ts ≡ exits_by p marks t i → get_or a t 0 ≡ min (bit (eqb t 0) + sum (exits_by p marks t) 0 i) more → get_or (entered ts a) t 0 ≡ min (bit (eqb t 0) + sum (exits_by p marks t) 0 (i + 1)) more
    counts_turn ts a lt e h = entered_at ts a t (bit (eqb t 0) + sum (exits_by p marks t) 0 i) lt h ∙ ap (λ (n : ℕ). min n more) (omega (arith, sum_more (exits_by p marks t) i))

  pub counts_none : (t : ℕ) → bit (eqb t 0) ≡ min (bit (eqb t 0) + sum (exits_by p marks t) 0 0) more
  unfolding sum
  counts_none t = omega (arith, bit_few (eqb t 0))

  -- the function's own marks give its entering edges
  module _ (e : marks ≡ leaders p) where
    pub entering_by_lem : (t : ℕ) → entering_by p marks t ≡ entering p t
    unfolding entering exits
    entering_by_lem t = ap (λ (n : ℕ). bit (eqb t 0) + n) (sum_same (exits_by p marks t) (exits p t) 0 (size p) (λ i lt. rw (mark_leads p marks e (0 + i + 1) (omega (arith, marks_length p marks e)))))

    pub counts_by : (n : ℕ) → table (λ t. min (entering_by p marks t) more) n ≡ table (λ t. min (entering p t) more) n
    counts_by n = over_same (λ t. min (entering_by p marks t) more) (λ t. min (entering p t) more) 0 n (λ t lt. ap (λ (e : ℕ). min e more) (entering_by_lem (0 + t)))
