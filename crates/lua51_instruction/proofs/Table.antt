-- The table of opcodes read back: by an opcode's name, and by a kind of flow. Assumes nothing.
use mathlib.Core.Bool.{Bool, ◌&&◌, true, not, ◌||◌, false}
use Prim.Native.Nat.{ℕ, ◌≤◌, ◌<◌, zero, suc}
use mathlib.Core.List.{List, foldr, ◌∷◌, []}
use Rattle.lua51_instruction.specs.Word.{straight, skip, jump, test, test_set, loop_entry, numeric_loop}
use Rattle.lua51_instruction.specs.Word.{generic_loop, exit, opcodes, op_of, row}
use Rattle.lua51_instruction.specs.Word.{row_of, Flow, Op, number_of, LOADBOOL, UNKNOWN, JMP, EQ, LT, LE}
use Rattle.lua51_instruction.specs.Word.{TEST, TESTSET, RETURN, FORLOOP, MOVE, LOADK, LOADNIL, GETUPVAL}
use Rattle.lua51_instruction.specs.Word.{GETGLOBAL, GETTABLE, SETGLOBAL, SETUPVAL, SETTABLE, NEWTABLE, SELF, ADD}
use Rattle.lua51_instruction.specs.Word.{SUB, MUL, DIV, MOD, POW, UNM, NOT, LEN, CONCAT, CALL, TAILCALL, FORPREP}
use Rattle.lua51_instruction.specs.Word.{TFORLOOP, SETLIST, CLOSE, CLOSURE, VARARG}
use Rattle.lua51_instruction.specs.Proto.{Proto, flow_at, opcode, size, word, op_at}
use mathlib.Core.Path.{◌≡◌, refl}
use Rattle.basics.proofs.Tests.{and_left, or_cases, clash, and_right, not_is, either_way}
use lib.Dec.{leb, ltb, eqb}
use native.Mathlib.Omega.{arith}
use borrow.Author.Tests.{eqb-false, leb-true, eqb-true, ne_eqb, ltb-true, ltb-false}
use lib.ListN.{length, get_or-eq_default}

-- ------------------------------------------------------------ by an opcode's name

-- the opcode of an opcode's number is that opcode
pub op_of_lem : (o : Op) → op_of (number_of o) ≡ o
unfolding op_of
op_of_lem MOVE = refl
op_of_lem LOADK = refl
op_of_lem LOADBOOL = refl
op_of_lem LOADNIL = refl
op_of_lem GETUPVAL = refl
op_of_lem GETGLOBAL = refl
op_of_lem GETTABLE = refl
op_of_lem SETGLOBAL = refl
op_of_lem SETUPVAL = refl
op_of_lem SETTABLE = refl
op_of_lem NEWTABLE = refl
op_of_lem SELF = refl
op_of_lem ADD = refl
op_of_lem SUB = refl
op_of_lem MUL = refl
op_of_lem DIV = refl
op_of_lem MOD = refl
op_of_lem POW = refl
op_of_lem UNM = refl
op_of_lem NOT = refl
op_of_lem LEN = refl
op_of_lem CONCAT = refl
op_of_lem JMP = refl
op_of_lem EQ = refl
op_of_lem LT = refl
op_of_lem LE = refl
op_of_lem TEST = refl
op_of_lem TESTSET = refl
op_of_lem CALL = refl
op_of_lem TAILCALL = refl
op_of_lem RETURN = refl
op_of_lem FORLOOP = refl
op_of_lem FORPREP = refl
op_of_lem TFORLOOP = refl
op_of_lem SETLIST = refl
op_of_lem CLOSE = refl
op_of_lem CLOSURE = refl
op_of_lem VARARG = refl
op_of_lem UNKNOWN = refl

-- ------------------------------------------------------------ tests of every opcode

-- a test of every number below n
abbrev pub all_below : (ℕ → Bool) → ℕ → Bool
all_below f zero = true
all_below f (suc n) = f n && all_below f n

pub all_below_lem : (f : ℕ → Bool) (n i : ℕ) → all_below f n ≡ true → i < n → f i ≡ true
all_below_lem f zero i h lt = absurd (omega arith)
all_below_lem f (suc n) i h lt = either_way (eqb i n)
    (λ e. rw (eqb-true i n e) (and_left (f n) (all_below f n) h))
    (λ e. all_below_lem f n i (and_right (f n) (all_below f n) h) (omega (arith, eqb-false i n e)))

-- o is the number of one of some opcodes
abbrev pub among : List Op → ℕ → Bool
among ops o = foldr {B = Bool} (λ (x : Op) (r : Bool). eqb o (number_of x) || r) false ops

-- the opcodes that do not go straight on
abbrev turning : List Op
turning = LOADBOOL ∷ JMP ∷ EQ ∷ LT ∷ LE ∷ TEST ∷ TESTSET ∷ RETURN ∷ FORLOOP ∷ FORPREP ∷ TFORLOOP ∷ []

-- the opcodes of each kind of flow
abbrev pub opcodes_of : Flow → ℕ → Bool
opcodes_of straight o = not (among turning o)
opcodes_of skip o = eqb o (number_of LOADBOOL)
opcodes_of jump o = eqb o (number_of JMP)
opcodes_of test o = among (EQ ∷ LT ∷ LE ∷ TEST ∷ []) o
opcodes_of test_set o = eqb o (number_of TESTSET)
opcodes_of loop_entry o = eqb o (number_of FORPREP)
opcodes_of numeric_loop o = eqb o (number_of FORLOOP)
opcodes_of generic_loop o = eqb o (number_of TFORLOOP)
opcodes_of exit o = eqb o (number_of RETURN)

-- one computed test of the whole table: each row's flow is that of its opcode, and each opcode has its own number
row_test : ℕ → Bool
row_test o = opcodes_of (row_of o).flow o && (leb (number_of UNKNOWN) o || eqb (number_of (op_of o)) o)

table : all_below row_test 64 ≡ true
unfolding row_test row_of row op_of
table = refl

-- ------------------------------------------------------------ straight on

-- o is the number of none of some opcodes, as the last arm of a match has it behind what holds before
abbrev Missed : List Op → ℕ → Type 0 → Type 0
Missed [] o before = before
Missed (x ∷ ops) o before = Missed ops o (before × (o ≡ number_of x → ⊥))

missed : (ops : List Op) (o : ℕ) (before : Type 0) → Missed ops o before → (among ops o ≡ false) × before
missed [] o before h = (refl, h)
missed (x ∷ ops) o before h =
    let (none, (first, ne)) = missed ops o (before × (o ≡ number_of x → ⊥)) h in
    (rw (ne_eqb o (number_of x) ne) none, first)

-- a flow that has the opcode o is straight, where none of the others has it
module _ (o : ℕ) (small : o < 64) (plain : opcodes_of straight o ≡ true) where
  apart : {A : Type 0} (f : Flow) → all_below (λ x. not (opcodes_of f x && opcodes_of straight x)) 64 ≡ true → opcodes_of f o ≡ true → A
  apart f h e = clash (all_below_lem (λ x. not (opcodes_of f x && opcodes_of straight x)) 64 o h small) (rw (e, plain))

  only_straight : (f : Flow) → opcodes_of f o ≡ true → f ≡ straight
  only_straight straight e = refl
  only_straight skip e = apart skip refl e
  only_straight jump e = apart jump refl e
  only_straight test e = apart test refl e
  only_straight test_set e = apart test_set refl e
  only_straight loop_entry e = apart loop_entry refl e
  only_straight numeric_loop e = apart numeric_loop refl e
  only_straight generic_loop e = apart generic_loop refl e
  only_straight exit e = apart exit refl e

-- an opcode that is none of those that turn goes straight on, and so does every number above 37
pub straight_on : (o : ℕ) → Missed turning o (Unit {0}) → (row_of o).flow ≡ straight
unfolding row_test row_of row op_of
straight_on o h = either_way (ltb o 64)
    (λ b. let small = ltb-true o 64 b in
    only_straight o small (rw (missed turning o (Unit {0}) h).0) (row_of o).flow (and_left (opcodes_of (row_of o).flow o) _ (all_below_lem row_test 64 o table small)))
    (λ b. let unknown : length opcodes ≤ o = omega (arith, ltb-false o 64 b) in rw (get_or-eq_default opcodes UNKNOWN unknown))

-- ------------------------------------------------------------ the words of a function

module _ (p : Proto) (i : ℕ) where
  small : opcode p i < 64
  small = omega arith

  row_test_lem : row_test (opcode p i) ≡ true
  row_test_lem = all_below_lem row_test 64 (opcode p i) table small

  pub flow_opcodes : (f : Flow) → flow_at p i ≡ f → opcodes_of f (opcode p i) ≡ true
  unfolding row_test
  flow_opcodes f e = rw e at (and_left (opcodes_of (flow_at p i) (opcode p i)) _ row_test_lem)

  -- what a computed test finds of every opcode, or of every opcode of a flow, holds of word i
  pub opcode_test : (t : ℕ → Bool) → all_below t 64 ≡ true → t (opcode p i) ≡ true
  opcode_test t h = all_below_lem t 64 (opcode p i) h small

  pub flow_test : (f : Flow) (t : ℕ → Bool) → flow_at p i ≡ f → all_below (λ o. not (opcodes_of f o) || t o) 64 ≡ true
      → t (opcode p i) ≡ true
  flow_test f t e h = or_cases (not (opcodes_of f (opcode p i))) (t (opcode p i)) (opcode_test (λ o. not (opcodes_of f o) || t o) h)
      (λ n. clash (flow_opcodes f e) (not_is (opcodes_of f (opcode p i)) n))
      (λ y. y)

  pub flow_not : (f : Flow) (o : Op) → flow_at p i ≡ f
      → all_below (λ x. not (opcodes_of f x) || not (eqb x (number_of o))) 64 ≡ true → opcode p i ≡ number_of o → ⊥
  flow_not f o e h = eqb-false (opcode p i) (number_of o) (not_is (eqb (opcode p i) (number_of o)) (flow_test f (λ x. not (eqb x (number_of o))) e h))

  -- a word of a known opcode
  pub flow_is : (o : Op) (f : Flow) → opcode p i ≡ number_of o → (row_of (number_of o)).flow ≡ f → flow_at p i ≡ f
  flow_is o f e h = rw (flow_at, e) h

  pub op_is : (o : Op) → opcode p i ≡ number_of o → op_at p i ≡ o
  op_is o e = rw (op_at, e) (op_of_lem o)

  -- a word whose opcode is none of those above 37
  pub op_number : opcode p i < number_of UNKNOWN → number_of (op_at p i) ≡ opcode p i
  unfolding row_test
  op_number lt = or_cases (leb (number_of UNKNOWN) (opcode p i)) (eqb (number_of (op_at p i)) (opcode p i)) (and_right (opcodes_of (flow_at p i) (opcode p i)) _ row_test_lem)
      (λ h. absurd (omega (arith, leb-true (number_of UNKNOWN) (opcode p i) h)))
      (λ h. eqb-true (number_of (op_at p i)) (opcode p i) h)

  -- behind the last word every word reads 0, which is MOVE
  pub word_beyond : size p ≤ i → word p i ≡ 0
  word_beyond h = get_or-eq_default p.words 0 h
