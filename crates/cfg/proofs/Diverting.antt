-- Loops by their flow, the words of their Then edges, and which of them have a between block, by the counts of entering edges.
-- Assumes nothing.
use Prim.Native.Nat.{ℕ, ◌+◌, ◌<◌, ◌≤◌, min}
use native.Mathlib.Omega.{arith}
use mathlib.Core.Bool.{Bool, true, false, not, cond, ◌||◌}
use mathlib.Core.List.{List}
use mathlib.Core.Logic.{◌⊎◌, inl, inr}
use mathlib.Core.Path.{◌≡◌, refl, sym, ap, ◌∙◌}
use lib.Dec.{eqb, ltb}
use borrow.Author.Tests.{ne_eqb, eqb-true, eqb-false, ltb-true, ltb-false}
use Rattle.lua51_instruction.specs.Word.{Flow, straight, skip, jump, test, test_set, loop_entry, numeric_loop, generic_loop, exit}
use Rattle.lua51_instruction.specs.Word.{number_of, FORLOOP, TFORLOOP, field_opcode, row_of, row, op_of}
use Rattle.lua51_instruction.specs.Instruction.{flow_meant}
use Rattle.lua51_instruction.specs.declared.instruction.Flow as declared
use Rattle.lua51_instruction.specs.declared.instruction.Flow.TheVariants as flows
use Rattle.lua51_instruction.specs.Proto.{Proto, size, word, opcode, is, flow_at, target}
use Rattle.lua51_instruction.proofs.Table.{word_beyond, opcode_test}
use Rattle.lua51_instruction.proofs.Targets.{target_most}
use Rattle.basics.proofs.Tests.{clash, either_way}
use Rattle.basics.proofs.Tables.{table_at}
use Rattle.cfg.specs.Graph.{is_loop, then_of, entering, diverted}
use Rattle.cfg.specs.Arrays.{more, diverted_by, entrances}
use Rattle.cfg.proofs.Entering.{loop_cases}

-- ------------------------------------------------------------ flows

-- the flow of FORLOOP, and the flows of loops
abbrev pub numeric : Flow → Bool
numeric straight = false
numeric skip = false
numeric jump = false
numeric test = false
numeric test_set = false
numeric loop_entry = false
numeric numeric_loop = true
numeric generic_loop = false
numeric exit = false

abbrev pub loops : Flow → Bool
loops straight = false
loops skip = false
loops jump = false
loops test = false
loops test_set = false
loops loop_entry = false
loops numeric_loop = true
loops generic_loop = true
loops exit = false

pub not_numeric : (f : declared.Flow) → (f ≡ flows.NumericLoop → ⊥) → numeric (flow_meant f) ≡ false
not_numeric flows.Straight n = refl
not_numeric flows.Skip n = refl
not_numeric flows.Jump n = refl
not_numeric flows.Test n = refl
not_numeric flows.TestSet n = refl
not_numeric flows.LoopEntry n = refl
not_numeric flows.NumericLoop n = absurd (n refl)
not_numeric flows.GenericLoop n = refl
not_numeric flows.Exit n = refl

pub some_loop : (f : declared.Flow) → (f ≡ flows.NumericLoop) ⊎ (f ≡ flows.GenericLoop) → true ≡ loops (flow_meant f)
some_loop f (inl e) = rw e
some_loop f (inr e) = rw e

pub no_loop : (f : declared.Flow) → (f ≡ flows.NumericLoop → ⊥) → (f ≡ flows.GenericLoop → ⊥) → false ≡ loops (flow_meant f)
no_loop flows.Straight n g = refl
no_loop flows.Skip n g = refl
no_loop flows.Jump n g = refl
no_loop flows.Test n g = refl
no_loop flows.TestSet n g = refl
no_loop flows.LoopEntry n g = refl
no_loop flows.NumericLoop n g = absurd (n refl)
no_loop flows.GenericLoop n g = absurd (g refl)
no_loop flows.Exit n g = refl

-- two tests agree
abbrev same : Bool → Bool → Bool
same a b = cond a b (not b)

same_is : (a b : Bool) → same a b ≡ true → a ≡ b
same_is true b h = sym h
same_is false true h = h
same_is false false h = refl

module _ (p : Proto) (i : ℕ) where
  -- a word's opcode and its flow say the same
  numeric_flow : is p i FORLOOP ≡ numeric (flow_at p i)
  numeric_flow = same_is (is p i FORLOOP) (numeric (flow_at p i)) (opcode_test p i (λ o. same (eqb o (number_of FORLOOP)) (numeric (row_of o).flow)) (unfold row_of row op_of in refl))

  loop_flow : is_loop p i ≡ loops (flow_at p i)
  unfolding is_loop
  loop_flow = same_is (is_loop p i) (loops (flow_at p i)) (opcode_test p i (λ o. same (eqb o (number_of FORLOOP) || eqb o (number_of TFORLOOP)) (loops (row_of o).flow)) (unfold row_of row op_of in refl))

  module _ (w : ℕ) (f : Flow) (e : word p i ≡ w) (h : f ≡ (row_of (field_opcode w)).flow) where
    same_flow : f ≡ flow_at p i
    same_flow = h ∙ ap (λ (x : ℕ). (row_of (field_opcode x)).flow) (sym e)

    pub loop_by : loops f ≡ is_loop p i
    loop_by = ap loops same_flow ∙ sym loop_flow

    pub then_by : cond (numeric f) (target p i) (i + 1) ≡ then_of p i
    unfolding then_of
    then_by = ap (λ (b : Bool). cond b (target p i) (i + 1)) (ap numeric same_flow ∙ sym numeric_flow)

  -- ------------------------------------------------------------ Then edges

  pub numeric_then : opcode p i ≡ number_of FORLOOP → then_of p i ≡ target p i
  unfolding then_of
  numeric_then h = rw h

  pub other_then : (opcode p i ≡ number_of FORLOOP → ⊥) → then_of p i ≡ i + 1
  unfolding then_of
  other_then h = rw (ne_eqb (opcode p i) (number_of FORLOOP) h)

  pub generic_then : opcode p i ≡ number_of TFORLOOP → then_of p i ≡ i + 1
  generic_then h = other_then (λ f. omega arith)

  -- a loop is a word, and its Then edge goes to n at most
  pub loop_inside : is_loop p i ≡ true → i < size p
  unfolding is_loop
  loop_inside loop = either_way (ltb i (size p))
      (λ h. ltb-true i (size p) h)
      (λ h. clash loop (rw (word_beyond p i (ltb-false i (size p) h))))

  pub then_most : is_loop p i ≡ true → then_of p i ≤ size p
  then_most loop = loop_cases p i loop
      (λ c. rw (numeric_then c) (target_most i (size p) (word p i)))
      (λ c. rw (generic_then c) (omega (arith, loop_inside loop)))

  -- ------------------------------------------------------------ between blocks

  -- one edge is one as it is counted
  alone : (e : ℕ) → eqb (min e more) 1 ≡ eqb e 1
  alone e = either_way (eqb e 1)
      (λ h. rw (eqb-true e 1 h))
      (λ h. rw h (ne_eqb (min e more) 1 (λ one. eqb-false e 1 h (omega arith))))

  -- where the counts are those of the entering edges, they say which loops are diverted
  pub diverted_by_lem : (counts : List ℕ) → counts ≡ entrances p → diverted_by p counts i ≡ diverted p i
  unfolding diverted
  diverted_by_lem counts e = either_way (is_loop p i)
      (λ loop. rw (loop, e, table_at (λ t. min (entering p t) more) (size p + 1) (then_of p i) (omega (arith, then_most loop)), alone (entering p (then_of p i))))
      (λ loop. rw loop)
