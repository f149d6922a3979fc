-- The words whose assignment stands at the front of a block, noted word by word. Assumes nothing.
use Prim.Native.Nat.{ℕ, zero, suc, ◌+◌, ◌<◌}
use native.Mathlib.Omega.{arith}
use native.Mathlib.Numerals.{add-one}
use native.Mathlib.Decide.{ℕ_discrete}
use mathlib.Core.Bool.{Bool, true, false, not, cond, ◌&&◌}
use mathlib.Core.List.{List}
use mathlib.Core.Path.{◌≡◌, refl, sym, ap}
use lib.Dec.{eqb}
use lib.ListN.{set}
use borrow.Author.Tests.{eq-eqb, ne_eqb, eqb-true}
use Rattle.basics.proofs.Range.{over_set, over_same}
use Rattle.basics.proofs.Tests.{and_left, and_right, clash, either_way}
use Rattle.lua51_instruction.specs.Word.{TESTSET, number_of}
use Rattle.lua51_instruction.specs.Proto.{Proto, opcode, is}
use Rattle.cfg.specs.Graph.{is_loop, then_of, diverted}
use Rattle.cfg.proofs.Entering.{loop_cases}
use Rattle.cfg_notes.specs.Notes.{fronted, front_among, notes_by, no_note, note_in}
use Rattle.cfg_notes.specs.declared.notes.Note.{Note}
use Rattle.basics.proofs.Tables.{rows_at}

module _ (p : Proto) where
  -- ------------------------------------------------------------ which words

  pub set_fronted : (i : ℕ) → opcode p i ≡ number_of TESTSET → fronted p i ≡ true
  set_fronted i e = rw (eq-eqb (opcode p i) (number_of TESTSET) e)

  -- TESTSET is no loop
  unset : (i : ℕ) → is_loop p i ≡ true → is p i TESTSET ≡ false
  unset i loop = loop_cases p i loop (λ e. rw e) (λ e. rw e)

  pub loop_fronted : (i : ℕ) (d : Bool) → is_loop p i ≡ true → d ≡ diverted p i → fronted p i ≡ not d
  loop_fronted i d loop h = rw (unset i loop, loop, h)

  -- ------------------------------------------------------------ one word more

  among_here : (k t : ℕ) → fronted p k ≡ true → then_of p k ≡ t → front_among p t (k + 1) ≡ k + 1
  unfolding front_among
  among_here k t y e = rw (add-one k, y, eq-eqb (then_of p k) t e)

  among_other : (k t : ℕ) → fronted p k && eqb (then_of p k) t ≡ false → front_among p t k ≡ front_among p t (k + 1)
  unfolding front_among
  among_other k t h = rw (add-one k, h)

  module _ (starts betweens : ℕ → ℕ) (n k : ℕ) where
    -- the fronts of the first m words beside what else is noted
    abbrev row : ℕ → ℕ → Note
    row m t = record { start = starts t; between = betweens t; front = front_among p t m }

    abbrev rows : ℕ → List Note
    rows m = notes_by starts betweens (λ t. front_among p t m) n

    abbrev put : Note
    put = record (note_in (rows k) (then_of p k)) { front = k + 1 }

    put_here : fronted p k ≡ true → then_of p k < n → put ≡ row (k + 1) (0 + then_of p k)
    put_here y lt =
        let was = rows_at (row k) no_note n (then_of p k) lt in
        let same : then_of p k ≡ 0 + then_of p k = omega arith in
        rw (← same) (λ i. record { start = (was i).start; between = (was i).between; front = sym (among_here k (then_of p k) y refl) i })

    kept : (t : ℕ) → fronted p k && eqb (then_of p k) t ≡ false → row k t ≡ row (k + 1) t
    kept t h = ap {B = Note} (λ (v : ℕ). record { start = starts t; between = betweens t; front = v }) (among_other k t h)

    pub front_turn : cond (fronted p k) (set (rows k) (then_of p k) put) (rows k) ≡ rows (k + 1)
    front_turn = either_way (fronted p k)
        (λ y. rw y (over_set (row k) (row (k + 1)) put 0 n (then_of p k)
        (put_here y)
        (λ j lt other. kept (0 + j) (rw (y, ne_eqb (then_of p k) (0 + j) (λ e. other (omega arith)))))))
        (λ none. rw none (over_same (row k) (row (k + 1)) 0 n (λ j lt. kept (0 + j) (rw none))))

  -- ------------------------------------------------------------ what is noted

  -- nothing is noted: no word has its assignment there
  pub among_none : (t k : ℕ) → front_among p t k ≡ 0 → (j : ℕ) → j < k → fronted p j ≡ true → then_of p j ≡ t → ⊥
  unfolding front_among
  among_none t zero h j lt y to = omega arith
  among_none t (suc k) h j lt y to = either_way (fronted p k && eqb (then_of p k) t)
      (λ test. omega (arith, rw test at h))
      (λ test. go (among_none t k (rw test at h) j) test (ℕ_discrete j k))
    where
      go : (j < k → fronted p j ≡ true → then_of p j ≡ t → ⊥) → fronted p k && eqb (then_of p k) t ≡ false → Dec (j ≡ k) → ⊥
      go below test (yes e) = clash (rw (← e, y, eq-eqb (then_of p j) t to)) test
      go below test (no d) = below (omega arith) y to

  -- a word is noted: it has its assignment there
  pub record Noted (t k i : ℕ) : Type 0 where
    pub below : i < k
    pub fronted : fronted p i ≡ true
    pub to : then_of p i ≡ t

  pub among_some : (t k i : ℕ) → front_among p t k ≡ suc i → Noted t k i
  unfolding front_among
  among_some t zero i h = absurd (omega arith)
  among_some t (suc k) i h = either_way (fronted p k && eqb (then_of p k) t)
      (λ test.
      let same : k ≡ i = omega (arith, rw test at h) in
      rw same (record {
        below = omega arith;
        fronted = rw same at (and_left (fronted p k) (eqb (then_of p k) t) test);
        to = rw same at (eqb-true (then_of p k) t (and_right (fronted p k) (eqb (then_of p k) t) test));
      }))
      (λ test.
      let old = among_some t k i (rw test at h) in
      record { below = omega (arith, old.below); fronted = old.fronted; to = old.to })
