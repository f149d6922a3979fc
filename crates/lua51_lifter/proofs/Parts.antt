-- A block in two parts: what a Then edge brings to it, and what stands behind that. Assumes nothing.
use Prim.Native.Nat.{ℕ, ◌+◌, ◌-◌, ◌<◌}
use native.Mathlib.Omega.{arith}
use mathlib.Core.Bool.{true, false, cond, ◌&&◌}
use mathlib.Core.Path.{◌≡◌, refl, sym, ◌∙◌}
use mathlib.Core.Logic.{◌⊎◌, inl, inr}
use mathlib.Core.List.{List, [], ◌++◌, append-nil}
use lib.Dec.{ltb, eqb}
use lib.ListN.{get_or}
use borrow.Author.Tests.{ltb-true, eqb-true, eqb-false, lt-ltb, eq-eqb}
use Rattle.basics.specs.Range.{over, only}
use Rattle.basics.proofs.Range.{times_second, times_here}
use Rattle.basics.proofs.Tests.{either_way, and_left, and_right, and_not, or_left, or_right}
use Rattle.lua51_instruction.specs.Word.{TESTSET, FORLOOP, TFORLOOP, number_of, numeric_loop, generic_loop, row_of, row, op_of}
use Rattle.lua51_instruction.specs.Proto.{Proto, size, is, opcode, target}
use Rattle.lua51_instruction.proofs.Table.{flow_is}
use Rattle.ast.specs.Statement.{Stmt}
use Rattle.cfg.specs.Graph.{leader, block_of, between_of, is_loop, then_of, diverted, claims}
use Rattle.cfg.proofs.Leaders.{leader_claimed}
use Rattle.cfg.proofs.Entering.{loop_cases, undiverted}
use Rattle.cfg.proofs.Diverting.{numeric_then, generic_then}
use Rattle.lua51_lifter.specs.Lift.{on_then}
use Rattle.lua51_lifter.specs.Blocks.{Block, no_block, kind_code, kind_entry, leads, stated, brought, front}
use Rattle.lua51_lifter.specs.Blocks.{code_block, entry_block, between_block, blocks}
use Rattle.lua51_lifter.specs.WordBehind.{then_block}
use Rattle.lua51_lifter.proofs.Ranges.{some_passing}
use Rattle.lua51_lifter.proofs.Blocks.{Stands, stands}
use Rattle.lua51_lifter.proofs.Blocks.Stands.{is_code, is_entry, is_between, is_none}
use Rattle.lua51_lifter.proofs.Fronts.{set_inside, no_front, entry_front, set_front, loop_front, diverted_front}

-- ------------------------------------------------------------ Then edges

module _ (p : Proto) where
  pub then_plain : (i : ℕ) → diverted p i ≡ false → then_block p i ≡ block_of p (then_of p i)
  unfolding leads
  then_plain i d = rw d

  pub then_between : (i : ℕ) → diverted p i ≡ true → then_block p i ≡ between_of p i
  unfolding leads
  then_between i d = rw d

  pub set_then : (i : ℕ) → opcode p i ≡ number_of TESTSET → then_block p i ≡ block_of p (i + 1)
  unfolding is_loop then_of
  set_then i e = then_plain i (undiverted p i (rw e)) ∙ rw e

  -- the word that a loop's Then edge goes to starts a range
  pub loop_then : (i : ℕ) → i < size p → is_loop p i ≡ true → leader p (then_of p i) ≡ true
  unfolding claims
  loop_then i lt h = loop_cases p i h
      (λ e. let flow = flow_is p i FORLOOP numeric_loop e (unfold row_of row op_of in refl) in
      rw (numeric_then p i e) (leader_claimed p i (target p i) lt (rw flow (times_second (target p i) (i + 1)))))
      (λ e. let flow = flow_is p i TFORLOOP generic_loop e (unfold row_of row op_of in refl) in
      rw (generic_then p i e) (leader_claimed p i (i + 1) lt (rw flow (times_here (i + 1) (i + 1) (only (i + 2)) refl))))

  -- the words that have an assignment on Then
  pub then_cases : {Z : Type 0} (i : ℕ) → (opcode p i ≡ number_of TESTSET → Z) → (is_loop p i ≡ true → Z) → (on_then p i ≡ [] → Z) → Z
  unfolding is_loop on_then
  then_cases i set loop neither = either_way (is p i TESTSET)
      (λ s. set (eqb-true (opcode p i) (number_of TESTSET) s))
      (λ s. either_way (is_loop p i) loop
      (λ l. neither (rw (s, or_left (is p i FORLOOP) _ l, or_right (is p i FORLOOP) _ l))))

-- ------------------------------------------------------------ the two parts of a block

module _ {X : Type 0} (carry : ℕ → ℕ → List Stmt → List X) (p : Proto) where
  abbrev pub block : ℕ → Block X
  block b = get_or (blocks carry p) b no_block

  -- what a Then edge brings to block b, which is all that a between block has; and what stands behind it
  unfoldable pub front_of : ℕ → List X
  front_of b =
      let x = block b in
      cond (eqb x.kind kind_code) (front carry p x.first) (cond (eqb x.kind kind_entry) [] x.body)

  unfoldable pub rest_of : ℕ → List X
  rest_of b =
      let x = block b in
      cond (eqb x.kind kind_code) (over (stated carry p) x.first (x.past - x.first))
      (cond (eqb x.kind kind_entry) x.body [])

  -- together they are all that it has
  pub parts : (b : ℕ) → (block b).body ≡ front_of b ++ rest_of b
  unfolding code_block entry_block between_block front_of rest_of over
  parts b = by_kind (stands carry p no_block b)
    where
      by_kind : Stands carry p no_block b → (block b).body ≡ front_of b ++ rest_of b
      by_kind (is_code t le l e x) = rw x
      by_kind (is_entry e x) = rw x
      by_kind (is_between i lt d e x) = rw x (sym (append-nil (brought carry p i)))
      by_kind (is_none x) = rw (x, entry_front carry p)

  -- a front is nothing, or the assignment of one word whose Then edge leads to the block
  abbrev pub Carried : ℕ → List X → Type 0
  Carried b xs = (xs ≡ []) ⊎ ((i : ℕ) × (i < size p) × (b ≡ then_block p i) × (xs ≡ carry i (opcode p i) (on_then p i)))

  code_brought : (t : ℕ) → Carried (block_of p t) (front carry p t)
  unfolding brought
  code_brought t = either_way (ltb 0 t && is p (t - 1) TESTSET)
      (λ h. by_set (ltb-true 0 t (and_left (ltb 0 t) _ h)) (eqb-true (opcode p (t - 1)) _ (and_right (ltb 0 t) _ h)))
      (λ h. some_passing (λ j. is_loop p j && eqb (then_of p j) t) (size p)
      (λ j lt q. by_loop (unset h) j lt (and_left (is_loop p j) _ q) (eqb-true (then_of p j) t (and_right (is_loop p j) _ q)))
      (λ no_loop. inl (no_front carry p t (unset h) (λ j lt l e one. no_loop j lt (rw (l, eq-eqb (then_of p j) t e))))))
    where
      by_set : 0 < t → opcode p (t - 1) ≡ number_of TESTSET → Carried (block_of p t) (front carry p t)
      by_set pos s =
          let back : t - 1 + 1 ≡ t = omega arith in
          let lt : t - 1 < size p = set_inside p (t - 1) s in
          inr (t - 1, lt, sym (rw back at (set_then p (t - 1) s)), rw back at (set_front carry p (t - 1) lt s))

      unset : ltb 0 t && is p (t - 1) TESTSET ≡ false → 0 < t → opcode p (t - 1) ≡ number_of TESTSET → ⊥
      unset h pos s = eqb-false (opcode p (t - 1)) (number_of TESTSET) (and_not (ltb 0 t) _ h (lt-ltb 0 t pos)) s

      by_loop : (0 < t → opcode p (t - 1) ≡ number_of TESTSET → ⊥) → (j : ℕ) → j < size p → is_loop p j ≡ true → then_of p j ≡ t
          → Carried (block_of p t) (front carry p t)
      by_loop no_set j lt l e = either_way (diverted p j)
          (λ d. inl (rw e at (diverted_front carry p j d (rw e no_set))))
          (λ d. inr (j, lt, sym (rw e at (then_plain p j d)), rw e at (loop_front carry p j lt l d)))

  pub front_brought : (b : ℕ) → Carried b (front_of b)
  unfolding code_block entry_block between_block front_of brought
  front_brought b = by_kind (stands carry p no_block b)
    where
      by_kind : Stands carry p no_block b → Carried b (front_of b)
      by_kind (is_code t le l e x) = rw (x, e) (code_brought t)
      by_kind (is_entry e x) = inl (rw x)
      by_kind (is_between i lt d e x) = inr (i, lt, e ∙ sym (then_between p i d), rw x)
      by_kind (is_none x) = inl (rw x (entry_front carry p))
