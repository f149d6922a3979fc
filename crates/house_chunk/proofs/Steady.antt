-- A reader that comes from i to j has read the bytes from i to j alone: where others have the same there, it reads them the same.
-- Assumes nothing.
use mathlib.Core.Path.{◌≡◌, refl, ◌∙◌, ap}
use mathlib.Core.Bool.{Bool, true, false, cond}
use mathlib.Core.List.{List, [], ◌∷◌}
use Prim.Native.Nat.{ℕ, zero, suc, ◌+◌, ◌-◌, ◌*◌, ◌^◌, ◌<◌, ◌≤◌}
use native.Mathlib.Omega.{arith}
use lib.Dec.{leb, eqb}
use lib.ListN.{length, get_or, take, drop, length-take, length-drop}
use lib.Seq.{ext_get_or, get_or-take, get_or-drop}
use Rattle.lua51_value.specs.Bytes.{byte_at, int_at}
use Rattle.lua51_value.specs.Value.{Value, nil, boolean, number, text, value_at, kind_nil, kind_boolean, kind_number, kind_string}
use Rattle.lua51_deserializer.specs.Chunk.{Read, here, refused, ◌then◌, again, field, limited, byte_to, count_to, counted, body, string}
use Rattle.lua51_deserializer.specs.Chunk.{present, constant_of, constant, head, constants, lines, locals, names, exactly, signature}
use Rattle.lua51_deserializer.specs.Chunk.{most, most_flags, ints, values_at}
use Rattle.basics.proofs.Range.{over_same}
use Rattle.lua51_deserializer.proofs.FieldEnds.{never, here_is, then_here, passed, field_here, limited_here, count_here, body_here}
use Rattle.lua51_deserializer.proofs.FieldEnds.{string_here, present_here, constant_on}

-- ------------------------------------------------------------ the same bytes

-- from i to below j
pub record Same (s u : List ℕ) (i j : ℕ) : Type 0 where
  pub byte : (k : ℕ) → i ≤ k → k < j → byte_at u k ≡ byte_at s k

pub same_part : {s u : List ℕ} {i j m n : ℕ} → Same s u i j → i ≤ m → n ≤ j → Same s u m n
same_part e a b = record { byte = λ k l g. e.byte k (omega arith) (omega arith) }

pub same_then : {s u v : List ℕ} {i j : ℕ} → Same s u i j → Same u v i j → Same s v i j
same_then e d = record { byte = λ k l g. d.byte k l g ∙ e.byte k l g }

pub same_all : {s : List ℕ} {i j : ℕ} → Same s s i j
same_all = record { byte = λ k l g. refl }

pub int_same : {s u : List ℕ} {i j : ℕ} → Same s u i j → (k : ℕ) → i ≤ k → k + 4 ≤ j → int_at u k ≡ int_at s k
unfolding int_at
int_same {s} {u} e k a b =
    let at : (n : ℕ) → n < 4 → byte_at u (k + n) ≡ byte_at s (k + n) = λ n lt. e.byte (k + n) (omega arith) (omega arith) in
    rw (e.byte k a (omega arith), at 1 (omega arith), at 2 (omega arith), at 3 (omega arith))

pub ints_same : {s u : List ℕ} (i n : ℕ) → Same s u i (i + 4 * n) → ints u i n ≡ ints s i n
unfolding ints
ints_same {s} {u} i n e =
    over_same (λ k. int_at u (i + 4 * k)) (λ k. int_at s (i + 4 * k)) 0 n (λ k lt. int_same e (i + 4 * (0 + k)) (omega arith) (omega arith))

-- n bytes from i on, as far as there are as many
text_same : {s u : List ℕ} (i n : ℕ) → length u ≡ length s → Same s u i (i + n) → take n (drop i u) ≡ take n (drop i s)
text_same {s} {u} i n l e = ext_get_or 0 (take n (drop i u)) (take n (drop i s)) long each
  where
    long : length (take n (drop i u)) ≡ length (take n (drop i s))
    long = rw (length-take n (drop i u), length-take n (drop i s), length-drop i u, length-drop i s, l)

    each : (k : ℕ) → k < length (take n (drop i u)) → get_or (take n (drop i u)) k 0 ≡ get_or (take n (drop i s)) k 0
    each k lt =
        let less : k < n = omega (arith, length-take n (drop i u)) in
        rw (get_or-take n (drop i u) k 0 less, get_or-take n (drop i s) k 0 less, get_or-drop i u k 0, get_or-drop i s k 0)
        (e.byte (i + k) (omega arith) (omega arith))

-- ------------------------------------------------------------ readers

-- a reader that reads the same bytes the same
abbrev Alike : (List ℕ → ℕ → Read) → Type 0
Alike r = (s u : List ℕ) (i j : ℕ) → length u ≡ length s → r s i ≡ here j → Same s u i j → r u i ≡ here j

-- and takes so many bytes at least
pub record Steady (least : ℕ) (r : List ℕ → ℕ → Read) : Type 0 where
  pub onward : (s : List ℕ) (i j : ℕ) → r s i ≡ here j → i + least ≤ j
  pub alike : Alike r

field_steady : (k : ℕ) → Steady k (λ s. field s k)
unfolding field
field_steady k = record {
  onward = λ s i j h. omega (arith, field_here s k i j h);
  alike = λ s u i j l h e. rw l h;
}

byte_steady : (limit : ℕ) → Steady 1 (λ s. byte_to s limit)
unfolding limited
byte_steady limit = record {
  onward = λ s i j h. omega (arith, (limited_here s 1 limit (byte_at s i) i j h).0);
  alike = λ s u i j l h e. rw (l, e.byte i (omega arith) (omega (arith, (limited_here s 1 limit (byte_at s i) i j h).0))) h;
}

pub count_steady : (limit : ℕ) → Steady 4 (λ s. count_to s limit)
unfolding limited
count_steady limit = record {
  onward = λ s i j h. omega (arith, count_here s limit i j h);
  alike = λ s u i j l h e. rw (l, int_same e i (omega arith) (omega (arith, count_here s limit i j h))) h;
}

-- one and then another
then_steady : {a b : ℕ} {r q : List ℕ → ℕ → Read} → Steady a r → Steady b q → Steady (a + b) (λ s i. r s i then q s)
then_steady {a} {b} {r} {q} f g = record {
  onward = λ s i j h. let (m, d, e) = then_here (r s i) (q s) j h in omega (arith, f.onward s i m d, g.onward s m j e);
  alike = λ s u i j l h e.
      let (m, d, t) = then_here (r s i) (q s) j h in
      let more : i + a ≤ m = f.onward s i m d in
      let less : m + b ≤ j = g.onward s m j t in
      rw (f.alike s u i m l d (same_part e (omega arith) (omega arith))) (g.alike s u m j l t (same_part e (omega arith) (omega arith)));
}

again_steady : {a : ℕ} {r : List ℕ → ℕ → Read} → Steady a r → (k : ℕ) → Steady 0 (λ s. again (r s) k)
unfolding again
again_steady f zero = record { onward = λ s i j h. omega (arith, here_is h); alike = λ s u i j l h e. h }
again_steady f (suc k) =
    let both = then_steady f (again_steady f k) in
    record { onward = λ s i j h. omega (arith, both.onward s i j h); alike = both.alike }

-- as many as a number of four bytes says
sized_steady : (f : ℕ → List ℕ → ℕ → Read) → ((k : ℕ) → Steady 0 (f k)) → (limit : ℕ)
    → Steady 4 (λ s i. count_to s limit i then f (int_at s i) s)
sized_steady f a limit = record {
  onward = λ s i j h.
      let (m, d, e) = then_here (count_to s limit i) (f (int_at s i) s) j h in
      omega (arith, count_here s limit i m d, (a (int_at s i)).onward s m j e);
  alike = λ s u i j l h e.
      let (m, d, g) = then_here (count_to s limit i) (f (int_at s i) s) j h in
      let far : m ≡ i + 4 = count_here s limit i m d in
      let less : m + 0 ≤ j = (a (int_at s i)).onward s m j g in
      rw ((count_steady limit).alike s u i m l d (same_part e (omega arith) (omega arith)), int_same e i (omega arith) (omega arith))
      ((a (int_at s i)).alike s u m j l g (same_part e (omega arith) (omega arith)));
}

counted_steady : {a : ℕ} {r : List ℕ → ℕ → Read} → Steady a r → (limit : ℕ) → Steady 4 (λ s. counted s limit (r s))
unfolding counted
counted_steady {a} {r} f limit = sized_steady (λ k s. again (r s) k) (again_steady f) limit

-- ------------------------------------------------------------ strings

body_steady : (k : ℕ) → Steady 0 (λ s. body s k)
unfolding body
body_steady k = record { onward = λ s i j h. omega (arith, body_here s k i j h); alike = alike k }
  where
    alike : (k : ℕ) → Alike (λ s. body s k)
    alike zero s u i j l h e = h
    alike (suc k) s u i j l h e = rw (l, e.byte (i + k) (omega arith) (omega (arith, body_here s (suc k) i j h))) h

pub string_steady : Steady 4 string
unfolding string
string_steady = sized_steady (λ k s. body s k) body_steady most

present_steady : Steady 4 present
unfolding present
present_steady = record {
  onward = λ s i j h. string_steady.onward s i j (present_here s i j h).2;
  alike = λ s u i j l h e.
      let (room, some, read) = present_here s i j h in
      rw (l, room, int_same e i (omega arith) (string_steady.onward s i j read), some) (string_steady.alike s u i j l read e);
}

-- ------------------------------------------------------------ constants

-- a reader of a constant, and the constant
record Tells (r : List ℕ → ℕ → Read) (v : List ℕ → ℕ → Value) : Type 0 where
  alike : Alike r
  value : (s u : List ℕ) (i j : ℕ) → length u ≡ length s → r s i ≡ here j → Same s u i j → v u i ≡ v s i

cond_tells : (b : Bool) {r q : List ℕ → ℕ → Read} {v x : List ℕ → ℕ → Value} → Tells r v → Tells q x
    → Tells (λ s i. cond b (r s i) (q s i)) (λ s i. cond b (v s i) (x s i))
cond_tells true f g = f
cond_tells false f g = g

-- behind the kind
behind : {a : ℕ} {r : List ℕ → ℕ → Read} → Steady a r → Alike (λ s i. r s (i + 1))
behind f s u i j l h e = f.alike s u (i + 1) j l h (same_part e (omega arith) (omega arith))

nil_tells : Tells (λ s i. here (i + 1)) (λ s i. nil)
nil_tells = record { alike = λ s u i j l h e. h; value = λ s u i j l h e. refl }

boolean_tells : Tells (λ s i. byte_to s 1 (i + 1)) (λ s i. boolean (byte_at s (i + 1)))
boolean_tells = record {
  alike = behind (byte_steady 1);
  value = λ s u i j l h e. ap boolean (e.byte (i + 1) (omega arith) (omega (arith, (byte_steady 1).onward s (i + 1) j h)));
}

number_tells : Tells (λ s i. field s 8 (i + 1)) (λ s i. number (int_at s (i + 1) + 2 ^ 32 * int_at s (i + 5)))
number_tells = record {
  alike = behind (field_steady 8);
  value = λ s u i j l h e.
      let far : j ≡ i + 1 + 8 = field_here s 8 (i + 1) j h in
      rw (int_same e (i + 1) (omega arith) (omega arith), int_same e (i + 5) (omega arith) (omega arith));
}

text_tells : (b : Bool)
    → Tells (λ s i. cond b (present s (i + 1)) (refused 4 i)) (λ s i. text (take (int_at s (i + 1) - 1) (drop (i + 5) s)))
text_tells true = record {
  alike = behind present_steady;
  value = λ s u i j l h e.
      let far : j ≡ i + 1 + 4 + int_at s (i + 1) = string_here s (i + 1) j (present_here s (i + 1) j h).2 in
      rw (int_same e (i + 1) (omega arith) (omega arith))
      (ap text (text_same (i + 5) (int_at s (i + 1) - 1) l (same_part e (omega arith) (omega arith))));
}
text_tells false = record { alike = λ s u i j l h e. never h; value = λ s u i j l h e. never h }

-- a constant of this kind
abbrev value_of : ℕ → List ℕ → ℕ → Value
value_of kind s i =
    cond (eqb kind kind_nil) nil
    (cond (eqb kind kind_boolean) (boolean (byte_at s (i + 1)))
    (cond (eqb kind kind_number) (number (int_at s (i + 1) + 2 ^ 32 * int_at s (i + 5)))
    (text (take (int_at s (i + 1) - 1) (drop (i + 5) s)))))

kind_tells : (kind : ℕ) → Tells (λ s. constant_of s kind) (value_of kind)
unfolding constant_of
kind_tells kind =
    cond_tells (eqb kind kind_nil) nil_tells
    (cond_tells (eqb kind kind_boolean) boolean_tells
    (cond_tells (eqb kind kind_number) number_tells
    (text_tells (eqb kind kind_string))))

module _ (s : List ℕ) (i j : ℕ) (h : constant s i ≡ here j) where
  abbrev kind : ℕ
  kind = byte_at s i

  kind_read : (leb (i + 1) (length s) ≡ true) × (constant_of s kind i ≡ here j)
  unfolding constant
  kind_read = passed (leb (i + 1) (length s)) _ 3 i h

  module _ (u : List ℕ) (l : length u ≡ length s) (e : Same s u i j) where
    kind_same : byte_at u i ≡ kind
    kind_same = e.byte i (omega arith) (omega (arith, constant_on s i j h))

    constant_alike : constant u i ≡ here j
    unfolding constant
    constant_alike = rw (l, kind_read.0, kind_same) ((kind_tells kind).alike s u i j l kind_read.1 e)

    value_same : value_at u i ≡ value_at s i
    unfolding value_at
    value_same = rw kind_same ((kind_tells kind).value s u i j l kind_read.1 e)

constant_steady : Steady 1 constant
constant_steady = record { onward = constant_on; alike = λ s u i j l h e. constant_alike s i j h u l e }

-- the values of constants that are read
pub values_same : (s u : List ℕ) (n i j : ℕ) → length u ≡ length s → again (constant s) n i ≡ here j → Same s u i j
    → values_at u i n ≡ values_at s i n
unfolding values_at again
values_same s u zero i j l h e = refl
values_same s u (suc n) i j l h e =
    let (m, d, g) = then_here (constant s i) (again (constant s) n) j h in
    let less : m + 0 ≤ j = (again_steady constant_steady n).onward s m j g in
    let first : Same s u i m = same_part e (omega arith) (omega arith) in
    rw (d, constant_alike s i m d u l first)
    (λ x. value_same s i m d u l first x ∷ values_same s u n m j l g (same_part e (omega (arith, constant_on s i m d)) (omega arith)) x)

-- ------------------------------------------------------------ a function's parts

pub head_steady : Steady 16 head
unfolding head
head_steady =
    let source_and_lines = then_steady (then_steady string_steady (field_steady 4)) (field_steady 4) in
    let two_bytes = then_steady (then_steady source_and_lines (field_steady 1)) (field_steady 1) in
    then_steady (then_steady two_bytes (byte_steady most_flags)) (field_steady 1)

pub constants_steady : Steady 4 constants
unfolding constants
constants_steady = counted_steady constant_steady most

pub lines_steady : Steady 4 lines
unfolding lines
lines_steady = counted_steady (field_steady 4) most

pub locals_steady : Steady 4 locals
unfolding locals
locals_steady = counted_steady (then_steady (then_steady string_steady (field_steady 4)) (field_steady 4)) most

pub names_steady : Steady 4 names
unfolding names
names_steady = counted_steady string_steady most

pub signature_steady : (bs : List ℕ) → Steady 0 (λ s. signature s bs)
unfolding signature exactly
signature_steady [] = record { onward = λ s i j h. omega (arith, here_is h); alike = λ s u i j l h e. h }
signature_steady (b ∷ bs) =
    let both = then_steady one (signature_steady bs) in
    record { onward = λ s i j h. omega (arith, both.onward s i j h); alike = both.alike }
  where
    one_long : (s : List ℕ) (i j : ℕ) → exactly s b i ≡ here j → j ≡ i + 1
    one_long s i j h = here_is (passed (eqb (byte_at s i) b) _ 2 i (passed (leb (i + 1) (length s)) _ 3 i h).1).1

    one : Steady 1 (λ s. exactly s b)
    one = record {
      onward = λ s i j h. omega (arith, one_long s i j h);
      alike = λ s u i j l h e. rw (l, e.byte i (omega arith) (omega (arith, one_long s i j h))) h;
    }
