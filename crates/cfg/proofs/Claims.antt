-- What a word's flow says of the words that it makes leaders, and the marks after each word. Assumes nothing.
use Prim.Native.Nat.{ℕ, ◌+◌, ◌<◌}
use native.Mathlib.Omega.{arith}
use mathlib.Core.Bool.{Bool, cond, ◌||◌}
use mathlib.Core.List.{List}
use mathlib.Core.Path.{◌≡◌, refl, ◌∙◌}
use lib.Dec.{eqb, ltb}
use lib.ListN.{length, get_or}
use borrow.Author.Tests.{ltb-true, ltb-false, lt-ltb}
use Rattle.lua51_instruction.specs.Proto.{Proto, size, flow_at}
use Rattle.basics.specs.Range.{sum, times}
use Rattle.basics.proofs.Tests.{either_way}
use Rattle.cfg.specs.Graph.{claims, leader}
use Rattle.cfg.specs.Arrays.{put_marks, mark, bit}
use Rattle.cfg.proofs.Tables.{marked_at}
use Rattle.basics.proofs.Tables.{sum_more}

-- what holds of a word of the function
pub within : {A : Type 0} (x y none : A) (p : Proto) (ws : List ℕ) (i : ℕ) → p.words ≡ ws → i < length ws → y ≡ x → y ≡ cond (ltb i (size p)) x none
within x y none p ws i e lt h = rw (e, lt-ltb i (length ws) lt) h

module _ (p : Proto) where
  -- word j leads a range by what the first k words say
  abbrev pub leads_by : ℕ → ℕ → Bool
  leads_by k j = eqb j 0 || ltb 0 (sum (λ i. times j (claims p i (flow_at p i))) 0 k)

  pub leads_none : (j : ℕ) → bit (leads_by 0 j) ≡ bit (eqb j 0)
  unfolding sum
  leads_none j = either_way (eqb j 0) (λ e. rw e) (λ e. rw e)

  pub leads_all : (j : ℕ) → mark p j ≡ bit (leads_by (size p) j)
  unfolding leader
  leads_all j = refl

  -- the marks of one word more
  pub marks_turn : (i j : ℕ) (a : List ℕ) → j < length a → get_or a j 0 ≡ bit (leads_by i j) → get_or (put_marks (claims p i (flow_at p i)) a) j 0 ≡ bit (leads_by (i + 1) j)
  marks_turn i j a lt h = marked_at (claims p i (flow_at p i)) a j lt ∙ rw (h, sum_more (λ i. times j (claims p i (flow_at p i))) i) joined
    where
      made : ℕ
      made = times j (claims p i (flow_at p i))

      before : ℕ
      before = sum (λ i. times j (claims p i (flow_at p i))) 0 i

      joined : cond (ltb 0 made) 1 (bit (eqb j 0 || ltb 0 before)) ≡ bit (eqb j 0 || ltb 0 (before + made))
      joined = either_way (eqb j 0)
          (λ z. rw z (either_way (ltb 0 made) (λ t. rw t) (λ t. rw t)))
          (λ z. rw z (either_way (ltb 0 made)
          (λ t. rw (t, lt-ltb 0 (before + made) (omega (arith, ltb-true 0 made t))))
          (λ t. let s : before + made ≡ before = omega (arith, ltb-false 0 made t) in rw (t, s))))
