-- The blocks that edges lead to, and that the edges of an accepted function go to words at which blocks start. Assumes nothing.
use Prim.Native.Nat.{ℕ, ◌+◌, ◌-◌, ◌≤◌, ◌<◌}
use native.Mathlib.Omega.{arith}
use mathlib.Core.Bool.{true, false, cond}
use mathlib.Core.List.{List, [], ◌∷◌, ◌++◌, map, flat_map}
use mathlib.Core.Path.{◌≡◌, refl, sym, ◌∙◌}
use Rattle.std.specs.Option.{unwrap_or}
use Rattle.std.specs.Prelude.{Option, Some, None}
use lib.Dec.{ltb, eqb}
use borrow.Author.Tests.{ltb-true, lt-ltb, eq-eqb, ne_eqb}
use Rattle.lines.specs.Line.{line, letter_e}
use Rattle.lua51_instruction.specs.Word.{Flow, straight, skip, jump, test, test_set, loop_entry, numeric_loop, generic_loop, exit}
use Rattle.lua51_instruction.specs.Proto.{Proto, size, word, flow_at, arg_c, target}
use Rattle.lua51_instruction.proofs.Targets.{target_most}
use Rattle.basics.specs.Range.{only}
use Rattle.basics.proofs.Range.{times_second}
use Rattle.basics.proofs.Tests.{either_way}
use Rattle.cfg.specs.Graph.{Edge, leader, claims, past, leaving, block_of, is_loop, then_of, between_of, diverted}
use Rattle.cfg.proofs.Leaders.{leader_claimed, past_found}
use Rattle.cfg.proofs.Diverting.{loop_inside, then_most}
use Rattle.cfg_notes.specs.Notes.{notes_of, note_in, noted, one_less}
use Rattle.cfg_notes.specs.declared.notes.Note.{Note}
use Rattle.cfg_notes.proofs.Parts.{block_said, between_said, given, ungiven}
use Rattle.lua51_lifter.specs.Check.{check, fine, lands_inside}
use Rattle.lua51_lifter.specs.Blocks.{leads, edges_of}
use Rattle.lua51_lifter.specs.Listing.{edge_line}
use Rattle.lua51_lifter.proofs.Accepted.{lands, end_leader}
use Rattle.lua51_lifter.proofs.Parts.{loop_then}
use Rattle.lua51_statements.proofs.Pieces.{pieces_one}

-- ------------------------------------------------------------ one edge

module _ (p : Proto) (i : ℕ) (e : Edge) where
  -- an edge that is no Then edge, or one of a word without a between block
  pub leads_other : (e.kind ≡ 1 → ⊥) → (leads p i e).to ≡ block_of p e.to
  unfolding leads
  leads_other h = rw (ne_eqb e.kind 1 h)

  pub leads_past : diverted p i ≡ false → (leads p i e).to ≡ block_of p e.to
  unfolding leads
  leads_past h = either_way (eqb e.kind 1) (λ k. rw (k, h)) (λ k. rw k)

  -- a Then edge by way of its between block
  pub leads_between : e.kind ≡ 1 → diverted p i ≡ true → (leads p i e).to ≡ between_of p i
  unfolding leads
  leads_between k h = rw (eq-eqb e.kind 1 k, h)

-- the line of an edge, by the block that it leads to
pub edge_line_lem : (p : Proto) (i : ℕ) (e : Edge) (block : ℕ) → block ≡ (leads p i e).to → line letter_e (e.kind ∷ block ∷ []) ≡ edge_line (leads p i e)
unfolding leads
edge_line_lem p i e block h = rw h

-- ------------------------------------------------------------ the edges of a word

-- word t is one from 0 to n at which a block starts
pub record Starts (p : Proto) (t : ℕ) : Type 0 where
  pub inside : t ≤ size p
  pub leads : leader p t ≡ true

-- so is the word that each edge goes to
abbrev pub Land : Proto → List Edge → Type 0
Land p [] = Unit {0}
Land p (e ∷ es) = Starts p e.to × Land p es

module _ (p : Proto) (ok : check p ≡ fine) (i : ℕ) (lt : i < size p) where
  target_inside : target p i ≤ size p
  target_inside = target_most i (size p) (word p i)

  -- the second of the leaders that the word makes
  second : (t : ℕ) → claims p i (flow_at p i) ≡ (i + 1) ∷ t ∷ [] → t ≤ size p → Starts p t
  second t h le = record { inside = le; leads = leader_claimed p i t lt (rw h (times_second t (i + 1))) }

  module _ (next : leader p (i + 1) ≡ true) where
    onward : Starts p (i + 1)
    onward = record { inside = omega arith; leads = next }

    by_flow : (f : Flow) → flow_at p i ≡ f → lands_inside p i f ≡ true → Land p (leaving p i f)
    unfolding lands_inside leaving
    by_flow straight e h = (onward, tt)
    by_flow skip e h = (
      either_way (eqb (arg_c p i) 0)
          (λ c. rw c onward)
          (λ c. rw c (second (i + 2) (unfold claims in rw (e, c)) (omega (arith, ltb-true (i + 2) (size p) (rw c at h))))),
      tt,
    )
    by_flow jump e h = (second (target p i) (unfold claims in rw e) target_inside, tt)
    by_flow test e h = (onward, (second (i + 2) (unfold claims in rw e) (omega (arith, ltb-true (i + 2) (size p) h)), tt))
    by_flow test_set e h = (onward, (second (i + 2) (unfold claims in rw e) (omega (arith, ltb-true (i + 2) (size p) h)), tt))
    by_flow loop_entry e h = (second (target p i) (unfold claims in rw e) target_inside, tt)
    by_flow numeric_loop e h = (second (target p i) (unfold claims in rw e) target_inside, (onward, tt))
    by_flow generic_loop e h = (onward, (second (i + 2) (unfold claims in rw e) (omega (arith, ltb-true (i + 2) (size p) h)), tt))
    by_flow exit e h = tt

    -- the edges of a range's last word
    pub leaving_land : Land p (leaving p i (flow_at p i))
    leaving_land = by_flow (flow_at p i) refl (lands p ok i lt (flow_at p i) refl)

-- the Then edge of a loop
pub then_starts : (p : Proto) (i : ℕ) → is_loop p i ≡ true → Starts p (then_of p i)
then_starts p i h = record { inside = then_most p i h; leads = loop_then p i (loop_inside p i h) h }

module _ (p : Proto) (i : ℕ) where
  -- the edges as the code has them
  pub edges_are : (es : List Edge) → i < size p → es ≡ cond (ltb i (size p)) (leaving p i (flow_at p i)) [] → leaving p i (flow_at p i) ≡ es
  edges_are es lt e = sym (rw (lt-ltb i (size p) lt) at e)

  abbrev edge_lines : List ℕ
  edge_lines = flat_map edge_line (map (leads p i) (leaving p i (flow_at p i)))

  pub no_edge : leaving p i (flow_at p i) ≡ [] → edge_lines ≡ []
  unfolding flat_map
  no_edge h = rw h

  pub one_edge : (e : Edge) → leaving p i (flow_at p i) ≡ only e → edge_lines ≡ edge_line (leads p i e)
  one_edge e h = rw h (pieces_one edge_line (leads p i e))

  pub two_edges : (e f : Edge) → leaving p i (flow_at p i) ≡ e ∷ f ∷ [] → edge_lines ≡ edge_line (leads p i e) ++ edge_line (leads p i f)
  unfolding flat_map
  two_edges e f h = rw h (rw (pieces_one edge_line (leads p i f)))

-- ------------------------------------------------------------ the edges of a block

module _ (p : Proto) (j : ℕ) where
  -- the block at n has none
  pub end_edges : j ≡ size p → edges_of p j ≡ []
  unfolding edges_of
  end_edges e = rw (eq-eqb j (size p) e)

  pub last_edges : j < size p → edges_of p j ≡ map (leads p (past p j - 1)) (leaving p (past p j - 1) (flow_at p (past p j - 1)))
  unfolding edges_of
  last_edges lt = rw (ne_eqb j (size p) (λ e. omega arith))

  -- its last word is a word, and behind it the next block starts
  pub last_inside : check p ≡ fine → j < size p → past p j - 1 < size p
  last_inside ok lt = let f = past_found p (end_leader p ok) j lt in omega (arith, f.from, f.within)

  pub last_leads : check p ≡ fine → j < size p → leader p (past p j - 1 + 1) ≡ true
  last_leads ok lt =
      let f = past_found p (end_leader p ok) j lt in
      let back : past p j - 1 + 1 ≡ past p j = omega (arith, f.from) in
      rw back f.leads

-- ------------------------------------------------------------ what the notes say of the blocks

module _ (p : Proto) (ns : List Note) (e : ns ≡ notes_of p) (i : ℕ) (le : i ≤ size p) where
  -- the number of the block that starts there
  pub block_read : leader p i ≡ true → {o : Option ℕ} {r : ℕ} → o ≡ one_less (note_in ns i).start → r ≡ unwrap_or o 0 → r ≡ block_of p i
  block_read leads read is = rw (is, read, block_said p ns e i le, leads)

  -- a between block stands on the Then edge there, and its number; or none does
  pub between_read : {o : Option ℕ} → o ≡ noted (note_in ns i).between → {r : ℕ} → o ≡ Some r → (diverted p i ≡ true) × (r ≡ between_of p i)
  between_read read some = given (diverted p i) (sym some ∙ read ∙ between_said p ns e i le)

  pub no_between_read : {o : Option ℕ} → o ≡ noted (note_in ns i).between → o ≡ None → diverted p i ≡ false
  no_between_read read none = ungiven (diverted p i) (between_of p i) (sym none ∙ read ∙ between_said p ns e i le)
