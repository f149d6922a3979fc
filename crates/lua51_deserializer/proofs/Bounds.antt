-- No reader goes past the end of the bytes. Assumes nothing.
use mathlib.Core.Path.{◌≡◌, refl, sym, subst}
use mathlib.Core.Bool.{Bool, true, false, cond}
use mathlib.Core.List.{List, [], ◌∷◌}
use Prim.Native.Nat.{ℕ, zero, suc, ◌+◌, ◌≤◌}
use native.Mathlib.Omega.{arith}
use borrow.Author.Tests.{leb-true}
use lib.Dec.{leb, ltb, eqb}
use lib.ListN.{length}
use Rattle.lua51_deserializer.specs.Chunk.{Read, here, refused, ◌then◌, again, field, limited}
use Rattle.lua51_value.specs.Bytes.{byte_at, int_at}
use Rattle.lua51_deserializer.specs.Chunk.{byte_to, count_to, counted, body, string, present, constant_of, constant}
use Rattle.lua51_deserializer.specs.Chunk.{head, code, constants, lines, locals, names, Place, Walk, walked}
use Rattle.lua51_deserializer.specs.Chunk.{◌next◌, many, begin, nest, finish, function, exactly, signature, most}
use Rattle.lua51_deserializer.specs.Chunk.{most_words, most_flags, most_functions, whole}
use Rattle.lua51_deserializer.specs.Cursor.{Bounded}

then_bounded : (n : ℕ) (r : Read) (f : ℕ → Read) → Bounded n r → ((i : ℕ) → i ≤ n → Bounded n (f i))
    → Bounded n (r then f)
then_bounded n (here i) f h g = g i h
then_bounded n (refused k p) f h g = h

cond_bounded : (n : ℕ) (b : Bool) (r q : Read) → (b ≡ true → Bounded n r) → Bounded n q → Bounded n (cond b r q)
cond_bounded n true r q h g = h refl
cond_bounded n false r q h g = g

module _ (s : List ℕ) where
  whole_bounded : (k i : ℕ) (r : Read) → (i + k ≤ length s → Bounded (length s) r) → Bounded (length s) (whole s k i r)
  whole_bounded k i r h = cond_bounded (length s) (leb (i + k) (length s)) r (refused 3 i) (λ e. h (leb-true (i + k) (length s) e)) (omega arith)

  field_bounded : (k i : ℕ) → Bounded (length s) (field s k i)
  unfolding field
  field_bounded k i = whole_bounded k i (here (i + k)) (λ h. h)

  limited_bounded : (k limit v i : ℕ) → Bounded (length s) (limited s k limit v i)
  unfolding limited
  limited_bounded k limit v i =
      whole_bounded k i _ (λ h. cond_bounded (length s) (leb v limit) (here (i + k)) (refused 4 i) (λ e. h) (omega arith))

  body_bounded : (k i : ℕ) → i ≤ length s → Bounded (length s) (body s k i)
  unfolding body
  body_bounded zero i h = h
  body_bounded (suc k) i h =
      whole_bounded (suc k) i _ (λ l. cond_bounded (length s) (eqb (byte_at s (i + k)) 0) (here (i + suc k)) (refused 4 i) (λ e. l) (omega arith))

  again_bounded : (f : ℕ → Read) → ((i : ℕ) → Bounded (length s) (f i)) → (k i : ℕ) → i ≤ length s
      → Bounded (length s) (again f k i)
  unfolding again
  again_bounded f g zero i h = h
  again_bounded f g (suc k) i h = then_bounded (length s) (f i) (again f k) (g i) (λ j l. again_bounded f g k j l)

  counted_bounded : (limit : ℕ) (f : ℕ → Read) → ((i : ℕ) → Bounded (length s) (f i)) → (i : ℕ)
      → Bounded (length s) (counted s limit f i)
  unfolding counted
  counted_bounded limit f g i = then_bounded (length s) (count_to s limit i) (again f (int_at s i)) (limited_bounded 4 limit (int_at s i) i) (λ j l. again_bounded f g (int_at s i) j l)

  string_bounded : (i : ℕ) → Bounded (length s) (string s i)
  unfolding string
  string_bounded i = then_bounded (length s) (count_to s most i) (body s (int_at s i)) (limited_bounded 4 most (int_at s i) i) (λ j l. body_bounded (int_at s i) j l)

  pub constant_bounded : (i : ℕ) → Bounded (length s) (constant s i)
  unfolding constant constant_of present
  constant_bounded i =
      whole_bounded 1 i _ (λ h.
      cond_bounded (length s) (eqb (byte_at s i) 0) _ _ (λ e. h)
      (cond_bounded (length s) (eqb (byte_at s i) 1) _ _ (λ e. limited_bounded 1 1 (byte_at s (i + 1)) (i + 1))
      (cond_bounded (length s) (eqb (byte_at s i) 3) _ _ (λ e. field_bounded 8 (i + 1))
      (cond_bounded (length s) (eqb (byte_at s i) 4) _ _ (λ e.
      whole_bounded 4 (i + 1) _ (λ l. refused_or (eqb (int_at s (i + 1)) 0)))
      (omega arith)))))
    where
      refused_or : (b : Bool) → Bounded (length s) (cond b (refused 4 (i + 1)) (string s (i + 1)))
      refused_or true = omega arith
      refused_or false = string_bounded (i + 1)

  pub count_bounded : (i : ℕ) → Bounded (length s) (count_to s most i)
  count_bounded i = limited_bounded 4 most (int_at s i) i

  -- fields behind fields
  and_field : (r : Read) (k : ℕ) → Bounded (length s) r → Bounded (length s) (r then field s k)
  and_field r k h = then_bounded (length s) r (field s k) h (λ i l. field_bounded k i)

  head_bounded : (i : ℕ) → Bounded (length s) (head s i)
  unfolding head
  head_bounded i =
      let lines = and_field (string s i then field s 4) 4 (and_field (string s i) 4 (string_bounded i)) in
      let bytes = and_field (string s i then field s 4 then field s 4 then field s 1) 1 (and_field (string s i then field s 4 then field s 4) 1 lines) in
      and_field (string s i then field s 4 then field s 4 then field s 1 then field s 1 then byte_to s most_flags) 1
      (then_bounded (length s) (string s i then field s 4 then field s 4 then field s 1 then field s 1) (byte_to s most_flags) bytes (λ j l. limited_bounded 1 most_flags (byte_at s j) j))

  begin_bounded : (parent : ℕ) (ps : List Place) (i : ℕ) → Bounded (length s) (begin s parent ps i).read
  unfolding begin code constants
  begin_bounded parent ps i =
      then_bounded (length s) (head s i then code s) (constants s)
      (then_bounded (length s) (head s i) (code s) (head_bounded i) (λ j l. counted_bounded most_words (field s 4) (field_bounded 4) j))
      (λ j l. counted_bounded most (constant s) constant_bounded j)

  finish_bounded : (me : ℕ) (ps : List Place) (i : ℕ) → Bounded (length s) (finish s me ps i).read
  unfolding finish lines locals names
  finish_bounded me ps i =
      then_bounded (length s) (lines s i then locals s) (names s)
      (then_bounded (length s) (lines s i) (locals s)
      (counted_bounded most (field s 4) (field_bounded 4) i)
      (λ j l. counted_bounded most (λ k. string s k then field s 4 then field s 4) (λ k. and_field (string s k then field s 4) 4 (and_field (string s k) 4 (string_bounded k))) j))
      (λ j l. counted_bounded most (string s) string_bounded j)

  pub signature_bounded : (bs : List ℕ) (i : ℕ) → i ≤ length s → Bounded (length s) (signature s bs i)
  unfolding signature exactly
  signature_bounded [] i h = h
  signature_bounded (b ∷ bs) i h =
      then_bounded (length s) (exactly s b i) (signature s bs)
      (whole_bounded 1 i _ (λ l. cond_bounded (length s) (eqb (byte_at s i) b) (here (i + 1)) (refused 2 i) (λ e. l) (omega arith)))
      (λ j l. signature_bounded bs j l)

  -- ------------------------------------------------------------ the walk

  pub next_bounded : (r : Read) (ps : List Place) (f : List Place → ℕ → Walk) → Bounded (length s) r
      → ((qs : List Place) (i : ℕ) → i ≤ length s → Bounded (length s) (f qs i).read)
      → Bounded (length s) (walked r ps next f).read
  next_bounded (here i) ps f h g = g ps i h
  next_bounded (refused n p) ps f h g = h

  many_bounded : (f : List Place → ℕ → Walk)
      → ((qs : List Place) (i : ℕ) → i ≤ length s → Bounded (length s) (f qs i).read)
      → (k : ℕ) (ps : List Place) (i : ℕ) → i ≤ length s → Bounded (length s) (many f k ps i).read
  unfolding many
  many_bounded f g zero ps i h = h
  many_bounded f g (suc k) ps i h = next_bounded (f ps i).read (f ps i).places (many f k) (g ps i h) (λ qs j l. many_bounded f g k qs j l)

  nest_bounded : (f : List Place → ℕ → Walk)
      → ((qs : List Place) (i : ℕ) → i ≤ length s → Bounded (length s) (f qs i).read)
      → (ps : List Place) (i : ℕ) → Bounded (length s) (nest s f ps i).read
  unfolding nest
  nest_bounded f g ps i =
      next_bounded (count_to s most i) ps (many f (int_at s i)) (limited_bounded 4 most (int_at s i) i) (λ qs k l. many_bounded f g (int_at s i) qs k l)

  pub function_bounded : (depth parent : ℕ) (ps : List Place) (i : ℕ)
      → Bounded (length s) (function s depth parent ps i).read
  unfolding function
  function_bounded zero parent ps i = omega arith
  function_bounded (suc depth) parent ps i =
      one (ltb (length ps) most_functions) (λ qs j. nest_bounded (function s depth (length ps)) (λ rs k l. function_bounded depth (length ps) rs k) qs j)
    where
      one : (b : Bool)
          → ((qs : List Place) (j : ℕ) → Bounded (length s) (nest s (function s depth (length ps)) qs j).read)
          → Bounded (length s) (cond b (begin s parent ps i next nest s (function s depth (length ps)) next finish s (length ps)) (walked (refused 5 i) ps)).read
      one true g =
          let b = begin s parent ps i in
          let n = b next nest s (function s depth (length ps)) in
          next_bounded n.read n.places (finish s (length ps))
          (next_bounded b.read b.places (nest s (function s depth (length ps))) (begin_bounded parent ps i) (λ qs j l. g qs j))
          (λ qs j l. finish_bounded (length ps) qs j)
      one false g = omega arith

  -- where a reading stands, and a walk
  pub read_inside : {i : ℕ} {r : Read} → here i ≡ r → Bounded (length s) r → i ≤ length s
  read_inside e h = subst (Bounded (length s)) (sym e) h

  pub walk_inside : {i : ℕ} {qs : List Place} {w : Walk} → walked (here i) qs ≡ w → Bounded (length s) w.read → i ≤ length s
  walk_inside e h = subst (λ (x : Walk). Bounded (length s) x.read) (sym e) h
