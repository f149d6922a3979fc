-- Laws of the F and K lines: how they are printed number by number, a string's bytes in the chunk, one turn of a loop over
-- numbered lines, and the constants of a function that is held whole. Assumes nothing.
use Prim.Native.Nat.{ℕ, suc, ◌+◌, ◌-◌, ◌≤◌, ◌<◌, min}
use mathlib.Core.Bool.{Bool, true, false, cond}
use mathlib.Core.List.{List, [], ◌∷◌, ◌++◌, flat_map, append-nil}
use mathlib.Core.Path.{◌≡◌, refl, sym, ap, ◌∙◌}
use native.Mathlib.Numerals.{add-one}
use native.Mathlib.Omega.{arith}
use lib.Dec.{ltb}
use lib.ListN.{length, get_or, take, drop, length-take, length-drop, length-map, drop_of_length-le}
use lib.Seq.{drop-cons, take_all}
use mir.Val.{bool_byte}
use borrow.Author.Tests.{ltb-true, ltb-false}
use Rattle.lines.specs.Line.{line, line_feed, column, letter_f, letter_k}
use Rattle.lines.specs.Out.{Out, puts, out_of, Puts}
use Rattle.lines.specs.declared.Output.{Output}
use Rattle.lines.proofs.Puts.{puts_append, puts_equal, puts_first, line_puts, Remains, remains_turn, remains_end}
use Rattle.lua51_instruction.specs.Proto.{Proto}
use Rattle.lua51_value.specs.Value.{Value, text, kind_of, kind_nil, kind_boolean, kind_number, kind_string, value_at}
use Rattle.lua51_deserializer.specs.Chunk.{Place, constants_at, proto_at}
use Rattle.lua51_value.specs.Value as values
use Rattle.lua51_value.specs.Constant.{within, value_of, Reads}
use Rattle.lua51_function.specs.Function.{places_from, constant_places, Stands, Holds}
use Rattle.lua51_function.specs.declared.function.Head.{Head}
use Rattle.lua51_function.specs.declared.function.Loaded.{Loaded}
use Rattle.lua51_value.specs.declared.value.Constant.{Constant}
use Rattle.lua51_value.proofs.Ends.{drop_within}
use Rattle.lua51_deserializer.proofs.FieldCases.{boolean_small}
use Rattle.basics.proofs.Tests.{either_way}
use Rattle.lua51_function.proofs.WholeFunction.{constants_count}
use Rattle.lua51_lifter.specs.Listing.{value, constant_items, constant_lines}
use Rattle.lua51_constants.specs.Constants.{function_line, numbers_of, constant_line, read_at, short, place_lines}
use Rattle.lua51_constants.specs.Constants.{PrintsConstant, AreRead}

-- ------------------------------------------------------------ number by number

-- one number
pub puts_nil : {a b : Output} → Puts a b (column kind_nil) → Puts a b (flat_map column (numbers_of values.nil))
unfolding numbers_of kind_of value flat_map
puts_nil p = puts_equal (sym (append-nil (column kind_nil))) p

-- a boolean as a number
pub bit_of : (b : Bool) → bool_byte b ≡ cond b 1 0
bit_of true = refl
bit_of false = refl

-- ------------------------------------------------------------ a string in the chunk

within_min : (s : List ℕ) (i : ℕ) → within s i ≡ min i (length s)
within_min s i = either_way (ltb i (length s))
    (λ t. rw t (omega (arith, ltb-true i (length s) t)))
    (λ t. rw t (omega (arith, ltb-false i (length s) t)))

-- two places that are cut off at the chunk's end, and the bytes between them
module _ (s : List ℕ) (from len : ℕ) {first past : ℕ} (start : first ≡ within s (from + 0))
    (end : past ≡ within s (from + len)) where
  start_min : first ≡ min from (length s)
  start_min = omega (arith, start ∙ within_min s (from + 0))

  end_min : past ≡ min (from + len) (length s)
  end_min = end ∙ within_min s (from + len)

  pub text_order : first ≤ past
  text_order = omega (arith, start_min, end_min)

  pub text_inside : past ≤ length s
  text_inside = omega (arith, end_min)

  text_length : length (take len (drop from s)) ≡ past - first
  text_length = omega (arith, length-take len (drop from s), length-drop from s, start_min, end_min)

  text_cut : take (past - first) (drop first s) ≡ take len (drop from s)
  text_cut =
      let e : from + 0 ≡ from = omega arith in
      let behind : drop first s ≡ drop from s =
      ap (λ (k : ℕ). drop k s) start ∙ drop_within s (from + 0) ∙ ap (λ (k : ℕ). drop k s) e in
      rw behind (either_way (ltb (from + len) (length s)) inner outer)
    where
      inner : ltb (from + len) (length s) ≡ true → take (past - first) (drop from s) ≡ take len (drop from s)
      inner t =
          let all : past - first ≡ len = omega (arith, start_min, end_min, ltb-true (from + len) (length s) t) in
          ap (λ (k : ℕ). take k (drop from s)) all

      outer : ltb (from + len) (length s) ≡ false → take (past - first) (drop from s) ≡ take len (drop from s)
      outer t =
          let beyond = ltb-false (from + len) (length s) t in
          take_all (past - first) (drop from s) (omega (arith, start_min, end_min, length-drop from s))
          ∙ sym (take_all len (drop from s) (omega (arith, length-drop from s)))

  -- printed: its kind, its length, its bytes
  pub text_printed : {a b c d : Output} → Puts a b (column kind_string) → Puts b c (column (past - first))
      → Puts c d (flat_map column (take (past - first) (drop first s)))
      → Puts a d (flat_map column (numbers_of (text (take len (drop from s)))))
  unfolding numbers_of kind_of value
  text_printed kind size bytes =
      rw (text_length, ← text_cut)
      (puts_first kind_string ((past - first) ∷ take (past - first) (drop first s)) kind
      (puts_first (past - first) (take (past - first) (drop first s)) size bytes))

-- ------------------------------------------------------------ K lines

-- the line of the constant k, which is read at a place: letter, index, kind and value, end
pub constant_printed : (s : List ℕ) (i place : ℕ) (k : Constant) {a b c d e : Output}
    → Puts a b (letter_k ∷ []) → Puts b c (column i) → Reads s place k
    → Puts c d (flat_map column (numbers_of (value_of s k))) → Puts d e (line_feed ∷ [])
    → PrintsConstant s i place a e
unfolding constant_line
constant_printed s i place k {a} {e = e} letter index reads content end = record {
  answer = shown (read_at s place) (ap (value_of s) (sym reads.answer));
  meaning = λ j r. shown (value_at s place) (sym (reads.meaning (λ k. boolean_small s place j k r)));
}
  where
    shown : (v : Value) → v ≡ value_of s k → Puts a e (constant_line i v)
    shown v same = rw same (line_puts (i ∷ numbers_of (value_of s k)) letter (puts_first i (numbers_of (value_of s k)) index content) end)

-- one turn of a loop that prints a line for each element, and its end
module _ {A : Type 0} (lines : ℕ → List A → List ℕ) (one : ℕ → A → List ℕ) (d : A) (o : Out) (xs : List A) (i : ℕ) where
  lines_turn : ((x : A) (xs : List A) → lines i (x ∷ xs) ≡ one i x ++ lines (i + 1) xs) → i < length xs
      → puts o (lines i (drop i xs)) ≡ puts (puts o (one i (get_or xs i d))) (lines (i + 1) (drop (i + 1) xs))
  lines_turn more h =
      ap (λ (l : List ℕ). puts o l)
      (ap (λ (l : List A). lines i l) (drop-cons xs i d h)
      ∙ more (get_or xs i d) (drop (suc i) xs)
      ∙ ap (λ (k : ℕ). one i (get_or xs i d) ++ lines (i + 1) (drop k xs)) (sym (add-one i)))
      ∙ puts_append o (one i (get_or xs i d)) (lines (i + 1) (drop (i + 1) xs))

  lines_done : lines i [] ≡ [] → length xs ≤ i → puts o (lines i (drop i xs)) ≡ o
  unfolding puts
  lines_done none h = ap (λ (l : List ℕ). puts o l) (ap (λ (l : List A). lines i l) (drop_of_length-le xs h) ∙ none)

module _ (s places : List ℕ) (i : ℕ) (o : Output) where
  -- the loop over the places: what is left to print after a turn that printed the line of the one at i
  module _ (h : i < length places) {o' : Output} (shown : PrintsConstant s (short i) (get_or places i 0) o o') where
    pub places_turn : {start : Output} {all : List ℕ} → Remains start o all (place_lines s i (drop i places))
        → Remains start o' all (place_lines s (i + 1) (drop (i + 1) places))
    unfolding place_lines
    places_turn left =
        remains_turn left
        (lines_turn (place_lines s) (λ k p. constant_line (short k) (read_at s p)) 0 (out_of o) places i (λ x xs. refl) h) shown.answer

    pub constants_turn : (vs : List Value) → AreRead s places vs
        → {start : Output} {all : List ℕ} → Remains start o all (constant_lines i (drop i vs))
        → Remains start o' all (constant_lines (i + 1) (drop (i + 1) vs))
    unfolding constant_items flat_map constant_line numbers_of
    constants_turn vs are left =
        let (j, read) = are.constant i h in
        let index : short i ≡ i = omega arith in
        let line : Puts o o' (constant_line i (get_or vs i values.nil)) =
        rw (← are.value i h) (rw index at (shown.meaning j read)) in
        remains_turn left (lines_turn constant_lines constant_line values.nil (out_of o) vs i (λ x xs. refl) (omega arith)) line

  -- and nothing is left at its end
  pub places_done : {start : Output} {all : List ℕ} → Remains start o all (place_lines s i (drop i places)) → length places ≤ i
      → Puts start o all
  unfolding place_lines
  places_done left h =
      remains_end left (lines_done (place_lines s) (λ k p. constant_line (short k) (read_at s p)) 0 (out_of o) places i refl h)

  pub constants_done : (vs : List Value) → AreRead s places vs
      → {start : Output} {all : List ℕ} → Remains start o all (constant_lines i (drop i vs)) → length places ≤ i → Puts start o all
  unfolding constant_items flat_map
  constants_done vs are left h = remains_end left (lines_done constant_lines constant_line values.nil (out_of o) vs i refl (omega arith))

-- ------------------------------------------------------------ a function that is held

-- the F line of a function is its head's
pub function_line_lem : {p : Proto} {h : Head} {ws ks ns us : List ℕ} → Stands p h ws ks ns us
    → line letter_f (p.number ∷ p.parameters ∷ p.upvalues ∷ p.stack ∷ []) ≡ function_line h
unfolding function_line
function_line_lem st = λ i. line letter_f (st.number i ∷ st.parameters i ∷ st.upvalues i ∷ st.stack i ∷ [])

-- at the places of its constants they were read
pub held_constants : {back : ℕ → ℕ} {s : List ℕ} {ps : List Place} {f : ℕ} {r : Loaded} {ws ks ns us : List ℕ} → Holds back s ps f r ws ks ns us
    → AreRead s (places_from s r.first r.constants) (constants_at s ps f)
unfolding proto_at
held_constants {s} {ps} {f} h =
    let places = constant_places s ps f in
    let count : length (constants_at s ps f) ≡ length places = constants_count s ps f in
    let kinds : length (constants_at s ps f) ≡ length (proto_at s ps f).kinds =
    sym (length-map (constants_at s ps f) kind_of) in
    rw h.places (record { few = omega arith; count = count; constant = h.constant; value = h.value })
