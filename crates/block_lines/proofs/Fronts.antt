-- What stands at the front of a block, by its note. Assumes nothing.
use Prim.Native.Nat.{ℕ, zero, suc, ◌+◌, ◌-◌, ◌≤◌, ◌<◌}
use native.Mathlib.Omega.{arith}
use mathlib.Core.Bool.{true, false, not, ◌&&◌}
use mathlib.Core.List.{List, []}
use mathlib.Core.Path.{◌≡◌, refl, ◌∙◌, sym}
use Rattle.std.specs.Option.{option_map_or}
use Rattle.std.specs.Prelude.{Option, Some, None}
use borrow.Author.Tests.{eqb-true}
use Rattle.lua51_instruction.specs.Word.{TESTSET, number_of}
use Rattle.lua51_instruction.specs.Proto.{Proto, size, opcode, is}
use Rattle.basics.proofs.Tests.{either_way, and_left, and_right, not_is, or_cases}
use Rattle.cfg.specs.Graph.{is_loop, then_of, diverted, entering}
use Rattle.cfg.proofs.Diverting.{other_then}
use Rattle.cfg.proofs.Entering.{diverted_many}
use Rattle.cfg_notes.specs.Notes.{fronted, front_note, notes_of, note_in, one_less}
use Rattle.cfg_notes.specs.declared.notes.Note.{Note}
use Rattle.cfg_notes.proofs.Fronts.{set_fronted, loop_fronted, among_none, among_some}
use Rattle.cfg_notes.proofs.Parts.{front_said}
use Rattle.lua51_lifter.specs.Blocks.{Named, naming, brought, front}
use Rattle.lua51_lifter.proofs.Fronts.{no_front, set_inside, set_front, loop_front}

-- a function of these words
abbrev pub function_of_lem : List ℕ → Proto
function_of_lem ws = record {
  number = 0;
  parameters = 0;
  upvalues = 0;
  flags = 0;
  stack = 0;
  words = ws;
  kinds = [];
  nested = [];
  nups = [];
  lines = [];
  names = 0;
}

-- the assignment that a front's note stands for: that of the word before it, if it names one
abbrev pub noted : Proto → ℕ → List Named
noted p v = option_map_or (brought naming p) (one_less v) []

module _ (p : Proto) where
  set_then : (i : ℕ) → opcode p i ≡ number_of TESTSET → then_of p i ≡ i + 1
  set_then i e = other_then p i (λ f. omega arith)

  -- an assignment stands at the front of the block that its Then edge goes to
  front_then : (i : ℕ) → i < size p → fronted p i ≡ true → front naming p (then_of p i) ≡ brought naming p i
  front_then i lt h = or_cases (is p i TESTSET) (is_loop p i && not (diverted p i)) h
      (λ s. let e = eqb-true (opcode p i) (number_of TESTSET) s in rw (set_then i e) (set_front naming p i lt e))
      (λ l. loop_front naming p i lt (and_left (is_loop p i) (not (diverted p i)) l) (not_is (diverted p i) (and_right (is_loop p i) (not (diverted p i)) l)))

  -- the front of a block is the assignment of the word that is noted
  pub front_noted : (t : ℕ) → front naming p t ≡ noted p (front_note p t)
  front_noted t = by_note (front_note p t) refl
    where
      alone : (j : ℕ) → then_of p j ≡ t → entering p t ≡ 1 → diverted p j ≡ false
      alone j to one = either_way (diverted p j) (λ d. absurd (diverted_many p j d (rw to one))) (λ d. d)

      by_note : (v : ℕ) → front_note p t ≡ v → front naming p t ≡ noted p v
      by_note zero e = no_front naming p t
          (λ pos q. let s : t - 1 + 1 ≡ t = omega arith in among_none p t (size p) e (t - 1) (set_inside p (t - 1) q) (set_fronted p (t - 1) q) (set_then (t - 1) q ∙ s))
          (λ j l loop to one. among_none p t (size p) e j l (loop_fronted p j false loop (sym (alone j to one))) to)
      by_note (suc i) e = let at = among_some p t (size p) i e in rw at.to at (front_then i at.below at.fronted)

  -- what is read at the block's first word says its front
  module _ (ns : List Note) (e : ns ≡ notes_of p) (t : ℕ) (le : t ≤ size p) {r : Option ℕ} (h : r ≡ one_less (note_in ns t).front) where
    said : front naming p t ≡ option_map_or (brought naming p) r []
    said = rw (h, front_said p ns e t le) (front_noted t)

    pub front_none : r ≡ None → front naming p t ≡ []
    front_none none = rw none at said

    pub front_some : (i : ℕ) → r ≡ Some i → front naming p t ≡ brought naming p i
    front_some i some = rw some at said
