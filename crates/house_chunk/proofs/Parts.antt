-- The parts of a function that was read: where each stands, and that bytes which are alike around the words are read alike.
-- Assumes nothing.
use mathlib.Core.Path.{◌≡◌}
use mathlib.Core.Bool.{cond}
use mathlib.Core.List.{List}
use Prim.Native.Nat.{ℕ, ◌+◌, ◌*◌, ◌≤◌}
use native.Mathlib.Omega.{arith}
use lib.Dec.{leb}
use lib.ListN.{length}
use Rattle.lua51_value.specs.Bytes.{int_at}
use Rattle.lua51_deserializer.specs.Chunk.{here, refused, ◌then◌, again, field, limited, counted, string, constant}
use Rattle.lua51_deserializer.specs.Chunk.{head, code, constants, lines, locals, names, most, most_words}
use Rattle.lua51_deserializer.proofs.FieldEnds.{then_here, counted_here, numbered_here, head_here}
use Rattle.house_chunk.proofs.Steady.{Same, same_part, int_same}
use Rattle.house_chunk.proofs.Steady.{string_steady, head_steady, constants_steady, lines_steady, locals_steady, names_steady}

-- ------------------------------------------------------------ in front of a function's nested functions, and behind them

-- a function at i, up to the count of its nested functions, which stands at n: its source ends at m, and the other parts stand behind
pub record Front (s : List ℕ) (i n : ℕ) : Type 0 where
  pub m : ℕ
  pub source : string s i ≡ here m
  pub top : head s i ≡ here (m + 8 + 4)
  pub words : code s (m + 8 + 4) ≡ here (m + 8 + 4 + 4 + 4 * int_at s (m + 8 + 4))
  pub values : constants s (m + 8 + 4 + 4 + 4 * int_at s (m + 8 + 4)) ≡ here n

placed : {s : List ℕ} {i n m c k : ℕ} → string s i ≡ here m → c ≡ m + 8 + 4 → head s i ≡ here c → k ≡ c + 4 + 4 * int_at s c
    → code s c ≡ here k → constants s k ≡ here n → Front s i n
placed {s} {i} {n} {m} source c_is top k_is words values = record {
  m = m;
  source = source;
  top = rw c_is at top;
  words = rw c_is at (rw k_is at words);
  values = rw c_is at (rw k_is at values);
}

pub front : (s : List ℕ) (i n : ℕ) → (head s i then code s then constants s) ≡ here n → Front s i n
unfolding code
front s i n h =
    let (k, before, values) = then_here (head s i then code s) (constants s) n h in
    let (c, top, words) = then_here (head s i) (code s) k before in
    let (m, source, c_is, flags) = head_here s i c top in
    placed source c_is top (numbered_here s most_words c k words).1 words values

-- words are read by their count alone
code_alike : (s u : List ℕ) (i : ℕ) → length u ≡ length s → int_at u i ≡ int_at s i → code u i ≡ code s i
unfolding code counted limited field
code_alike s u i l e = rw (each, l, e)
  where
    each : field u 4 ≡ field s 4
    each = λ x i. cond (leb (i + 4) (l x)) (here (i + 4)) (refused 3 i)

module _ (s : List ℕ) (i n : ℕ) (f : Front s i n) where
  -- where the count of its words stands, and that of its constants
  abbrev pub words_begin : ℕ
  words_begin = f.m + 8 + 4

  abbrev pub values_begin : ℕ
  values_begin = words_begin + 4 + 4 * int_at s words_begin

  pub front_on : (i + 4 ≤ f.m) × (values_begin + 4 ≤ n)
  front_on = (string_steady.onward s i f.m f.source, constants_steady.onward s values_begin n f.values)

  pub values_read : again (constant s) (int_at s values_begin) (values_begin + 4) ≡ here n
  unfolding constants
  values_read = (counted_here s most (constant s) values_begin n f.values).2

  -- it is read by all but its words
  module _ (u : List ℕ) (l : length u ≡ length s) (before : Same s u i (words_begin + 4)) where
    pub source_alike : string u i ≡ here f.m
    source_alike = string_steady.alike s u i f.m l f.source (same_part before (omega arith) (omega arith))

    pub front_alike : Same s u values_begin n → (head u i then code u then constants u) ≡ here n
    front_alike behind =
        let top = head_steady.alike s u i words_begin l f.top (same_part before (omega arith) (omega arith)) in
        let count : int_at u words_begin ≡ int_at s words_begin = int_same before words_begin (omega (arith, front_on)) (omega arith) in
        rw (top, code_alike s u words_begin l count, f.words) (constants_steady.alike s u values_begin n l f.values behind)

-- what stands behind the nested functions, from t to j: the lines end at a, and the locals at b
pub record Tail (s : List ℕ) (t j : ℕ) : Type 0 where
  pub a : ℕ
  pub b : ℕ
  pub line_numbers : lines s t ≡ here a
  pub local_names : locals s a ≡ here b
  pub upvalue_names : names s b ≡ here j

pub tail : (s : List ℕ) (t j : ℕ) → (lines s t then locals s then names s) ≡ here j → Tail s t j
tail s t j h =
    let (b, before, n) = then_here (lines s t then locals s) (names s) j h in
    let (a, l, v) = then_here (lines s t) (locals s) b before in
    record { a = a; b = b; line_numbers = l; local_names = v; upvalue_names = n }

module _ (s : List ℕ) (t j : ℕ) (f : Tail s t j) where
  pub tail_on : (t + 4 + 4 * int_at s t ≤ f.b) × (f.b + 4 ≤ j)
  unfolding lines
  tail_on =
      let far : f.a ≡ t + 4 + 4 * int_at s t = (numbered_here s most t f.a f.line_numbers).1 in
      (omega (arith, locals_steady.onward s f.a f.b f.local_names), names_steady.onward s f.b j f.upvalue_names)

  pub before_names : (lines s t then locals s) ≡ here f.b
  before_names = rw f.line_numbers f.local_names

  module _ (u : List ℕ) (l : length u ≡ length s) (e : Same s u t j) where
    pub before_names_alike : (lines u t then locals u) ≡ here f.b
    before_names_alike =
        let a_on : t + 4 ≤ f.a = lines_steady.onward s t f.a f.line_numbers in
        let b_on : f.a + 4 ≤ f.b = locals_steady.onward s f.a f.b f.local_names in
        let in_time : f.b + 4 ≤ j = tail_on.1 in
        rw (lines_steady.alike s u t f.a l f.line_numbers (same_part e (omega arith) (omega arith)))
        (locals_steady.alike s u f.a f.b l f.local_names (same_part e (omega arith) (omega arith)))

    pub tail_alike : (lines u t then locals u then names u) ≡ here j
    tail_alike =
        rw before_names_alike
        (names_steady.alike s u f.b j l f.upvalue_names (same_part e (omega (arith, tail_on.0)) (omega arith)))
