-- Where a field that was read ends, and what its count or its value is then at most. Assumes nothing.
use mathlib.Core.Bool.{Bool, true, false, cond}
use mathlib.Core.List.{List}
use mathlib.Core.Path.{◌≡◌, refl, ◌∙◌}
use Prim.Native.Nat.{ℕ, zero, suc, ◌+◌, ◌*◌, ◌≤◌}
use native.Mathlib.Omega.{arith}
use borrow.Author.Tests.{leb-true}
use lib.Dec.{leb, eqb}
use lib.ListN.{length}
use Rattle.lua51_deserializer.specs.Chunk.{Read, here, refused, ◌then◌, again, byte_to, count_to, field, limited, counted, body}
use Rattle.lua51_deserializer.specs.Chunk.{string, present, constant_of, constant, head, most, most_flags}
use Rattle.lua51_value.specs.Bytes.{byte_at, int_at}
use Rattle.lua51_value.specs.Value.{kind_nil, kind_boolean, kind_number, kind_string}
use Rattle.basics.proofs.Tests.{either_way}
use Rattle.lua51_deserializer.proofs.Bounds.{constant_bounded}

-- a refusal is no offset
pub never : {A : Type 0} {n p j : ℕ} → refused n p ≡ here j → A
never e = let z : ◌≡◌ {A = ℕ} 0 1 = cc in absurd (omega arith)

-- two fields in turn that were read: where the first ends
pub then_here : (r : Read) (f : ℕ → Read) (j : ℕ) → (r then f) ≡ here j → (i : ℕ) × (r ≡ here i) × (f i ≡ here j)
then_here (here i) f j e = (i, refl, e)
then_here (refused n p) f j e = never e

-- a test that was passed
pub passed : (b : Bool) (r : Read) (n p : ℕ) {j : ℕ} → cond b r (refused n p) ≡ here j → (b ≡ true) × (r ≡ here j)
passed true r n p e = (refl, e)
passed false r n p e = never e

-- a test that did not refuse
unrefused : (b : Bool) (r : Read) (n p : ℕ) {j : ℕ} → cond b (refused n p) r ≡ here j → (b ≡ false) × (r ≡ here j)
unrefused true r n p e = never e
unrefused false r n p e = (refl, e)

pub here_is : {i j : ℕ} → here i ≡ here j → j ≡ i
here_is e = cc

module _ (s : List ℕ) where
  pub field_here : (k i j : ℕ) → field s k i ≡ here j → j ≡ i + k
  unfolding field
  field_here k i j e = here_is (passed (leb (i + k) (length s)) (here (i + k)) 3 i e).1

  -- and the bytes go on to its end
  pub limited_here : (k limit v i j : ℕ) → limited s k limit v i ≡ here j → (j ≡ i + k) × (v ≤ limit) × (i + k ≤ length s)
  unfolding limited
  limited_here k limit v i j e =
      let whole = passed (leb (i + k) (length s)) (cond (leb v limit) (here (i + k)) (refused 4 i)) 3 i e in
      let small = passed (leb v limit) (here (i + k)) 4 i whole.1 in
      (here_is small.1, leb-true v limit small.0, leb-true (i + k) (length s) whole.0)

  pub count_here : (limit i j : ℕ) → count_to s limit i ≡ here j → j ≡ i + 4
  count_here limit i j e = (limited_here 4 limit (int_at s i) i j e).0

  -- a counted list: its count, and its elements
  pub counted_here : (limit : ℕ) (f : ℕ → Read) (i j : ℕ) → counted s limit f i ≡ here j
      → (int_at s i ≤ limit) × (i + 4 ≤ length s) × (again f (int_at s i) (i + 4) ≡ here j)
  unfolding counted
  counted_here limit f i j e =
      let (k, count, rest) = then_here (count_to s limit i) (again f (int_at s i)) j e in
      let (end, small, inside) = limited_here 4 limit (int_at s i) i k count in
      (small, inside, rw end at rest)

  numbers_here : (n i j : ℕ) → again (field s 4) n i ≡ here j → j ≡ i + 4 * n
  unfolding again
  numbers_here zero i j e = here_is e ∙ omega arith
  numbers_here (suc n) i j e =
      let (k, first, rest) = then_here (field s 4 i) (again (field s 4) n) j e in
      omega (arith, field_here 4 i k first, numbers_here n k j rest)

  -- a counted list of numbers
  pub numbered_here : (limit i j : ℕ) → counted s limit (field s 4) i ≡ here j → (int_at s i ≤ limit) × (j ≡ i + 4 + 4 * int_at s i)
  numbered_here limit i j e =
      let (small, inside, rest) = counted_here limit (field s 4) i j e in
      (small, numbers_here (int_at s i) (i + 4) j rest)

  -- ------------------------------------------------------------ strings

  pub body_here : (k i j : ℕ) → body s k i ≡ here j → j ≡ i + k
  unfolding body
  body_here zero i j e = omega (arith, here_is e)
  body_here (suc k) i j e =
      let whole = (passed (leb (i + suc k) (length s)) _ 3 i e).1 in
      here_is (passed (eqb (byte_at s (i + k)) 0) (here (i + suc k)) 4 i whole).1

  pub string_here : (i j : ℕ) → string s i ≡ here j → j ≡ i + 4 + int_at s i
  unfolding string
  string_here i j e =
      let (k, size, rest) = then_here (count_to s most i) (body s (int_at s i)) j e in
      omega (arith, count_here most i k size, body_here (int_at s i) k j rest)

  pub present_here : (i j : ℕ) → present s i ≡ here j → (leb (i + 4) (length s) ≡ true) × (eqb (int_at s i) 0 ≡ false) × (string s i ≡ here j)
  unfolding present
  present_here i j e =
      let (room, sized) = passed (leb (i + 4) (length s)) _ 3 i e in
      let (some, read) = unrefused (eqb (int_at s i) 0) (string s i) 4 i sized in
      (room, some, read)

  -- ------------------------------------------------------------ a function's head

  -- its source ends at m, and its lines and bytes stand behind
  pub head_here : (i j : ℕ) → head s i ≡ here j
      → (m : ℕ) × (string s i ≡ here m) × (j ≡ m + 8 + 4) × (byte_at s (m + 8 + 2) ≤ most_flags)
  unfolding head
  head_here i j e =
      let (g, flags, stack) = then_here _ (field s 1) j e in
      let (f, parameters, flag) = then_here _ (byte_to s most_flags) g flags in
      let (d, upvalues, parameter) = then_here _ (field s 1) f parameters in
      let (c, last_line, upvalue) = then_here _ (field s 1) d upvalues in
      let (b, first_line, last) = then_here _ (field s 4) c last_line in
      let (m, source, first) = then_here (string s i) (field s 4) b first_line in
      let (behind, small, inside) = limited_here 1 most_flags (byte_at s f) f g flag in
      let at : f ≡ m + 8 + 2 = omega (arith, field_here 4 m b first, field_here 4 b c last, field_here 1 c d upvalue, field_here 1 d f parameter) in
      (m, source, omega (arith, field_here 1 g j stack), rw at at small)

  -- ------------------------------------------------------------ constants

  -- a constant takes a byte at least
  pub constant_on : (i j : ℕ) → constant s i ≡ here j → i + 1 ≤ j
  unfolding constant constant_of
  constant_on i j e =
      let kind = (passed (leb (i + 1) (length s)) (constant_of s (byte_at s i) i) 3 i e).1 in
      either_way (eqb (byte_at s i) kind_nil)
      (λ n. omega (arith, here_is (rw n at kind)))
      (λ n. either_way (eqb (byte_at s i) kind_boolean)
      (λ b. omega (arith, (limited_here 1 1 (byte_at s (i + 1)) (i + 1) j (rw (n, b) at kind)).0))
      (λ b. either_way (eqb (byte_at s i) kind_number)
      (λ m. omega (arith, field_here 8 (i + 1) j (rw (n, b, m) at kind)))
      (λ m. either_way (eqb (byte_at s i) kind_string)
      (λ t. omega (arith, string_here (i + 1) j (present_here (i + 1) j (rw (n, b, m, t) at kind)).2))
      (λ t. never (rw (n, b, m, t) at kind)))))

  -- so n of them take n bytes at least
  pub constants_on : (n i j : ℕ) → again (constant s) n i ≡ here j → i ≤ length s → i + n ≤ length s
  unfolding again
  constants_on zero i j e h = omega arith
  constants_on (suc n) i j e h =
      let (k, first, rest) = then_here (constant s i) (again (constant s) n) j e in
      omega (arith, constant_on i k first, constants_on n k j rest (rw first at (constant_bounded s i)))
