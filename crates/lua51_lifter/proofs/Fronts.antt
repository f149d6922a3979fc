-- What stands at the front of a block, by the edge that enters it. Assumes nothing.
use mathlib.Core.Bool.{true, false, cond, ◌&&◌}
use Rattle.lua51_instruction.specs.Word.{test_set, TESTSET, number_of, row_of, row, op_of}
use Prim.Native.Nat.{ℕ, ◌+◌, ◌-◌, ◌≤◌, ◌<◌}
use native.Mathlib.Omega.{arith}
use mathlib.Core.Path.{◌≡◌, refl, sym, ◌∙◌}
use mathlib.Core.List.{List, [], ◌++◌, append-nil}
use lib.Dec.{ltb, eqb}
use borrow.Author.Tests.{ltb-true, ltb-false, eqb-true, eqb-false, lt-ltb, eq-eqb, ne_eqb}
use Rattle.lua51_instruction.specs.Proto.{Proto, size, opcode, is, flow_at, word}
use Rattle.cfg.specs.Graph.{is_loop, diverted, claims, then_of, leader, leaving, entering}
use Rattle.lua51_lifter.specs.Blocks.{brought, front}
use Rattle.ast.specs.Statement.{Stmt}
use Rattle.lua51_lifter.specs.Check.{check, fine, reaches}
use Rattle.cfg.proofs.Entering.{sent, diverted_many, loop_cases, loop_sends, crowd, undiverted_one, entering_at}
use Rattle.cfg.proofs.Entering.{loop_leads}
use Rattle.basics.proofs.Tests.{either_way}
use Rattle.basics.specs.Range.{times, over, only}
use Rattle.cfg.proofs.Leaders.{leader_claimed}
use Rattle.lua51_instruction.proofs.Table.{flow_is, word_beyond}
use Rattle.basics.proofs.Range.{over_none, times_here, over_only}
use Rattle.lua51_lifter.proofs.Accepted.{set_unreached}

module _ (p : Proto) where
  -- ------------------------------------------------------------ a TESTSET

  -- the word behind it starts a range, to which it sends an edge
  pub set_leads : (i : ℕ) → i < size p → opcode p i ≡ number_of TESTSET → leader p (i + 1) ≡ true
  unfolding claims
  set_leads i lt e = leader_claimed p i (i + 1) lt (rw (flow_is p i TESTSET test_set e (unfold row_of row op_of in refl)) (times_here (i + 1) (i + 1) (only (i + 2)) refl))

  set_sends : (i : ℕ) → opcode p i ≡ number_of TESTSET → 1 ≤ sent p i (i + 1)
  unfolding sent leaving
  set_sends i e = rw (flow_is p i TESTSET test_set e (unfold row_of row op_of in refl)) (times_here (i + 1) (i + 1) (only (i + 2)) refl)

  -- TESTSET is no loop
  set_other : (i j : ℕ) → opcode p i ≡ number_of TESTSET → is_loop p j ≡ true → i ≡ j → ⊥
  set_other i j e q z = let g : opcode p j ≡ number_of TESTSET = rw z at e in loop_cases p j q (λ h. omega arith) (λ h. omega arith)

  -- and stands among the words: behind the last every word reads 0
  pub set_inside : (i : ℕ) → opcode p i ≡ number_of TESTSET → i < size p
  set_inside i e = either_way (ltb i (size p))
      (λ l. ltb-true i (size p) l)
      (λ l. let w : word p i ≡ 0 = word_beyond p i (ltb-false i (size p) l) in absurd (omega (arith, rw w at e)))

  -- ------------------------------------------------------------ no TESTSET stands before the word that an edge goes to

  pub unset_reach : check p ≡ fine → (i t : ℕ) → i < size p → t < size p → 1 ≤ times t (reaches p i (flow_at p i))
      → 0 < t → opcode p (t - 1) ≡ number_of TESTSET → ⊥
  unset_reach ok i t lt l h pos e =
      let q : t - 1 + 1 ≡ t = omega arith in
      omega (arith, rw q at (set_unreached p ok (t - 1) (omega arith) e i lt))

  pub unset_next : (i : ℕ) → (opcode p i ≡ number_of TESTSET → ⊥) → 0 < i + 1 → opcode p (i + 1 - 1) ≡ number_of TESTSET
      → ⊥
  unset_next i h pos e = let q : i + 1 - 1 ≡ i = omega arith in h (rw q at e)

module _ {X : Type 0} (carry : ℕ → ℕ → List Stmt → List X) (p : Proto) where
  -- ------------------------------------------------------------ the two parts of a front

  set_part : ℕ → List X
  set_part t = cond (ltb 0 t && is p (t - 1) TESTSET) (brought carry p (t - 1)) []

  loop_at : ℕ → ℕ → List X
  loop_at t i = cond (is_loop p i && eqb (then_of p i) t) (brought carry p i) []

  loop_part : ℕ → List X
  loop_part t = cond (eqb (entering p t) 1) (over (loop_at t) 0 (size p)) []

  front_parts : (t : ℕ) → front carry p t ≡ set_part t ++ loop_part t
  unfolding front set_part loop_part loop_at
  front_parts t = refl

  set_none : (t : ℕ) → (0 < t → opcode p (t - 1) ≡ number_of TESTSET → ⊥) → set_part t ≡ []
  unfolding set_part
  set_none t h = either_way (ltb 0 t)
      (λ l. rw (l, ne_eqb (opcode p (t - 1)) (number_of TESTSET) (h (ltb-true 0 t l))))
      (λ l. rw l)

  loop_at_none : (t i : ℕ) → (is_loop p i ≡ true → then_of p i ≡ t → ⊥) → loop_at t i ≡ []
  unfolding loop_at
  loop_at_none t i h = either_way (is_loop p i)
      (λ l. rw (l, ne_eqb (then_of p i) t (h l)))
      (λ l. rw l)

  loop_none : (t : ℕ) → ((j : ℕ) → j < size p → is_loop p j ≡ true → then_of p j ≡ t → entering p t ≡ 1 → ⊥)
      → loop_part t ≡ []
  unfolding loop_part
  loop_none t h = either_way (eqb (entering p t) 1)
      (λ e. rw e (over_none (loop_at t) 0 (size p) (λ i lt. loop_at_none t (0 + i) (λ l q. h (0 + i) (omega arith) l q (eqb-true (entering p t) 1 e)))))
      (λ e. rw e)

  -- a front that no word brings an assignment to
  pub no_front : (t : ℕ) → (0 < t → opcode p (t - 1) ≡ number_of TESTSET → ⊥)
      → ((j : ℕ) → j < size p → is_loop p j ≡ true → then_of p j ≡ t → entering p t ≡ 1 → ⊥) → front carry p t ≡ []
  no_front t unset alone = front_parts t ∙ rw (set_none t unset) (loop_none t alone)

  -- ------------------------------------------------------------ an edge that brings nothing

  -- an edge of word i, which is no loop's only edge to t
  pub plain_front : (i t : ℕ) → i < size p → leader p (i + 1) ≡ true → 1 ≤ sent p i t
      → (is_loop p i ≡ true → then_of p i ≡ t → 2 ≤ sent p i t) → (0 < t → opcode p (t - 1) ≡ number_of TESTSET → ⊥)
      → front carry p t ≡ []
  plain_front i t lt h e twice unset = no_front t unset alone
    where
      alone : (j : ℕ) → j < size p → is_loop p j ≡ true → then_of p j ≡ t → entering p t ≡ 1 → ⊥
      alone j l q s one = either_way (eqb i j)
          (λ z. let g : 2 ≤ sent p i t = twice (rw (eqb-true i j z) q) (rw (eqb-true i j z) s) in omega (arith, entering_at p i t lt h))
          (λ z. crowd p i j t lt h e (eqb-false i j z) l q s one)

  -- the entry's edge
  pub entry_front : front carry p 0 ≡ []
  entry_front = no_front 0 (λ l q. omega arith) alone
    where
      alone : (j : ℕ) → j < size p → is_loop p j ≡ true → then_of p j ≡ 0 → entering p 0 ≡ 1 → ⊥
      alone j l q s one = let f : 1 ≤ sent p j 0 = rw s at (loop_sends p j q) in omega (arith, entering_at p j 0 l (loop_leads p j l q))

  -- the edge of a between block
  pub diverted_front : (i : ℕ) → diverted p i ≡ true
      → (0 < then_of p i → opcode p (then_of p i - 1) ≡ number_of TESTSET → ⊥) → front carry p (then_of p i) ≡ []
  diverted_front i h unset = no_front (then_of p i) unset (λ j l q s one. diverted_many p i h one)

  -- ------------------------------------------------------------ an edge that brings an assignment

  -- the Then edge of a TESTSET
  pub set_front : (i : ℕ) → i < size p → opcode p i ≡ number_of TESTSET → front carry p (i + 1) ≡ brought carry p i
  set_front i lt e =
      front_parts (i + 1) ∙ rw (mine, loop_none (i + 1) (λ j l q s one. crowd p i j (i + 1) lt (set_leads p i lt e) (set_sends p i e) (set_other p i j e q) l q s one)) (append-nil (brought carry p i))
    where
      less : i + 1 - 1 ≡ i
      less = omega arith

      mine : set_part (i + 1) ≡ brought carry p i
      mine = unfold set_part in rw (lt-ltb 0 (i + 1) (omega arith), less, eq-eqb (opcode p i) (number_of TESTSET) e)

  -- the Then edge of a loop that has no between block
  pub loop_front : (i : ℕ) → i < size p → is_loop p i ≡ true → diverted p i ≡ false → front carry p (then_of p i) ≡ brought carry p i
  loop_front i lt h d = front_parts (then_of p i) ∙ rw (set_none (then_of p i) unset) mine
    where
      one : entering p (then_of p i) ≡ 1
      one = undiverted_one p i h d

      unset : 0 < then_of p i → opcode p (then_of p i - 1) ≡ number_of TESTSET → ⊥
      unset pos e =
          let back : then_of p i - 1 + 1 ≡ then_of p i = omega arith in
          let small : then_of p i - 1 < size p = set_inside p (then_of p i - 1) e in
          crowd p (then_of p i - 1) i (then_of p i) small (set_leads p (then_of p i - 1) small e) (rw back at (set_sends p (then_of p i - 1) e)) (set_other p (then_of p i - 1) i e h) lt h refl one

      mine : loop_part (then_of p i) ≡ brought carry p i
      mine = unfold loop_part in rw (eq-eqb (entering p (then_of p i)) 1 one)
          (over_only (loop_at (then_of p i)) (size p) i lt (λ j l ne. loop_at_none (then_of p i) j (λ q s. crowd p i j (then_of p i) lt (loop_leads p i lt h) (loop_sends p i h) (λ z. ne (sym z)) l q s one))
          ∙ (unfold loop_at in rw (h, eq-eqb (then_of p i) (then_of p i) refl)))
