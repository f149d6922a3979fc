-- Laws for the loop that makes the inverse of a table, from its last line to its first, and for words put back by it. They hold of every
-- table, since any numbers may stand in a reading that is lent. Assumes nothing.
use Prim.Native.Nat.{ℕ, ◌+◌, ◌-◌, ◌%◌, ◌<◌, ◌≤◌}
use native.Mathlib.Omega.{arith}
use native.Mathlib.Numerals.{add-one}
use native.Mathlib.Decide.{ℕ_discrete}
use mathlib.Core.Bool.{cond}
use mathlib.Core.List.{List, [], ◌∷◌, ◌++◌}
use mathlib.Core.Path.{◌≡◌, refl, sym, ap, ◌∙◌}
use lib.Dec.{ltb, eqb}
use lib.ListN.{length, get_or, take, drop, set, length-set, length-take, drop_of_length-le}
use lib.Seq.{drop-cons, get_or-set_same, get_or-set_other}
use borrow.Author.Tests.{le-ltb, ltb-false, eq-eqb, ne_eqb}
use Rattle.std.proofs.lemmas.List.{length_push, get_or_push, get_or-take, take_more, append_cancel_right}
use Rattle.basics.specs.Range.{table as filled}
use Rattle.basics.proofs.Range.{over_same}
use Rattle.basics.proofs.Tables.{tabled, table_at, table_length}
use Rattle.basics.proofs.Tests.{either_way}
use Rattle.lua51_instruction.specs.Word.{field_opcode}
use Rattle.house_table.specs.House.{opcode_count, number_count, position_of, opcode_back, word_back, inverse_of, word_by}

-- ------------------------------------------------------------ the inverse, line by line

-- the last of the lines that are left, and those before it
pub last_left : (table left : List ℕ) (x : ℕ) {left' : List ℕ} → left ≡ left' ++ (x ∷ []) → left ≡ take (length left) table
    → (left' ≡ take (length left') table) × (x ≡ get_or table (length left') 0) × (length left ≡ length left' + 1) × (length left ≤ length table)
last_left table left x {left'} e t =
    let i = length left' in
    let one : length left ≡ i + 1 = ap length e ∙ length_push left' x in
    let few : length left ≤ length table = omega (arith, ap length t ∙ length-take (length left) table) in
    let same : left' ++ (x ∷ []) ≡ take (i + 1) table = sym e ∙ t ∙ ap (λ n. take n table) one in
    let last : x ≡ get_or table i 0 = sym (get_or_push left' x 0 i refl) ∙ ap (λ (l : List ℕ). get_or l i 0) same ∙ get_or-take (i + 1) table i 0 (omega arith) in
    let both : left' ++ (x ∷ []) ≡ take i table ++ (x ∷ []) = same ∙ take_more table i 0 (omega arith) ∙ ap (λ y. take i table ++ (y ∷ [])) (sym last) in
    (append_cancel_right left' (take i table) (x ∷ []) both, last, one, few)

-- Lua's opcode for the number o, by the lines from i on alone
abbrev pub found_from : List ℕ → ℕ → ℕ → ℕ
found_from table i o = cond (ltb 37 o) o (i + position_of o (drop i table))

-- behind the last line no number is any opcode's
pub found_none : (table : List ℕ) → length table ≡ opcode_count → filled (found_from table opcode_count) number_count
    ≡ filled (λ o. cond (ltb 37 o) o 38) number_count
unfolding position_of
found_none table e =
    let few : length table ≤ opcode_count = omega arith in
    let h : drop opcode_count table ≡ [] = drop_of_length-le table few in
    over_same (found_from table opcode_count) (λ o. cond (ltb 37 o) o 38) 0 number_count (λ j lt. rw h)

-- by all lines it is the inverse
pub found_all : (table : List ℕ) → filled (found_from table 0) number_count ≡ inverse_of table
unfolding opcode_back
found_all table = over_same (found_from table 0) (opcode_back table) 0 number_count (λ j lt. ap (cond (ltb 37 (0 + j)) (0 + j)) (omega arith))

-- one line more, the one at i
module _ (table : List ℕ) (i : ℕ) (inside : i < length table) where
  abbrev number : ℕ
  number = get_or table i 0

  -- its number is found here, and every other where it was
  turn : (o : ℕ) → i + position_of o (drop i table) ≡ cond (eqb o number) i (i + 1 + position_of o (drop (i + 1) table))
  unfolding position_of
  turn o = rw (add-one i, drop-cons table i 0 inside) (either_way (eqb o number) (λ h. rw h (omega arith)) (λ h. rw h (omega arith)))

  found_same : (o : ℕ) → (o ≡ number → 37 < o) → found_from table i o ≡ found_from table (i + 1) o
  found_same o h = either_way (ltb 37 o)
      (λ t. rw t)
      (λ t. let other : o ≡ number → ⊥ = λ e. absurd (omega (arith, h e, ltb-false 37 o t)) in rw (t, turn o, ne_eqb o number other))

  -- it is no opcode's
  pub found_past : (a : List ℕ) → a ≡ filled (found_from table (i + 1)) number_count → 37 < number
      → a ≡ filled (found_from table i) number_count
  found_past a e h = e ∙ over_same (found_from table (i + 1)) (found_from table i) 0 number_count (λ j lt. sym (found_same (0 + j) (λ e. omega arith)))

  -- it is noted
  pub found_more : (a : List ℕ) → a ≡ filled (found_from table (i + 1)) number_count → number ≤ 37
      → set a number i ≡ filled (found_from table i) number_count
  found_more a e h = tabled (found_from table i) (set a number i) number_count long each
    where
      room : length a ≡ number_count
      room = rw e (table_length (found_from table (i + 1)) number_count)

      long : length (set a number i) ≡ number_count
      long = length-set a number i ∙ room

      each : (k : ℕ) → k < length (set a number i) → get_or (set a number i) k 0 ≡ found_from table i k
      each k lt = go (ℕ_discrete k number)
        where
          go : Dec (k ≡ number) → get_or (set a number i) k 0 ≡ found_from table i k
          go (yes q) = rw (q, get_or-set_same a number i 0 (omega (arith, room)), le-ltb 37 number h, turn number, eq-eqb number number refl)
          go (no q) =
              get_or-set_other a number k i 0 q
              ∙ (rw e (table_at (found_from table (i + 1)) number_count k (omega (arith, long))) ∙ sym (found_same k (λ x. absurd (q x))))

-- ------------------------------------------------------------ words

position_most : (o : ℕ) (table : List ℕ) → position_of o table ≤ length table
unfolding position_of
position_most o [] = omega arith
position_most o (x ∷ xs) = either_way (eqb o x) (λ h. rw h (omega arith)) (λ h. rw h (omega (arith, position_most o xs)))

-- 6 bits hold what is put back
back_narrow : (table : List ℕ) (o : ℕ) → length table < number_count → o < number_count → opcode_back table o < number_count
unfolding opcode_back
back_narrow table o few lt = either_way (ltb 37 o) (λ h. rw h lt) (λ h. rw h (omega (arith, position_most o table)))

-- by the inverse of a table every word is put back as by the table
pub by_inverse : (table : List ℕ) → length table ≡ opcode_count → word_by (inverse_of table) ≡ word_back table
unfolding word_by word_back
by_inverse table few = λ i w. each w i
  where
    each : (w : ℕ) → word_by (inverse_of table) w ≡ word_back table w
    each w =
        let o = field_opcode w in
        let at : get_or (inverse_of table) o 0 ≡ opcode_back table o = table_at (opcode_back table) number_count o (omega arith) in
        let narrow : opcode_back table o % number_count ≡ opcode_back table o = omega (arith, back_narrow table o (omega arith) (omega arith)) in
        rw (at, narrow)

-- a word by the inverse at its opcode
pub by_opcode : (inverse : List ℕ) (w b : ℕ) {n o : ℕ} → n ≡ field_opcode w → b ≡ get_or inverse (field_opcode w) 0 → o ≡ field_opcode b
    → w - n + o ≡ word_by inverse w
unfolding word_by
by_opcode inverse w b e q r = let low : field_opcode b ≡ b % number_count = omega arith in rw (e, r, low, q)
