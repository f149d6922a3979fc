-- 4-byte numbers in a row, of which `left` are whole: n are read where there are as many, else the first that is not whole is
-- refused. Assumes nothing.
use mathlib.Core.Path.{◌≡◌, ◌∙◌, ap}
use mathlib.Core.List.{List}
use Prim.Native.Nat.{ℕ, zero, suc, ◌+◌, ◌-◌, ◌*◌, ◌/◌, ◌<◌, ◌≤◌}
use native.Mathlib.Nat.{add-zero}
use native.Mathlib.Omega.{arith}
use borrow.Author.Tests.{le-leb, lt-leb}
use lib.ListN.{length}
use Rattle.lua51_deserializer.specs.Chunk.{here, refused, again, field}

module _ (s : List ℕ) where
  pub numbers_whole : (n i left : ℕ) → left ≡ (length s - i) / 4 → n ≤ left → here (i + 4 * n) ≡ again (field s 4) n i
  unfolding again field
  numbers_whole zero i left e h = ap here (add-zero i)
  numbers_whole (suc n) i left e h =
      let m : i + 4 * suc n ≡ i + 4 + 4 * n = omega arith in
      rw (le-leb (i + 4) (length s) (omega arith)) (ap here m ∙ numbers_whole n (i + 4) (left - 1) (omega arith) (omega arith))

  pub numbers_short : (n i left : ℕ) → left ≡ (length s - i) / 4 → left < n
      → refused 3 (i + 4 * left) ≡ again (field s 4) n i
  unfolding again field
  numbers_short zero i left e h = absurd (omega arith)
  numbers_short (suc n) i zero e h = rw (lt-leb (i + 4) (length s) (omega arith)) (ap (refused 3) (add-zero i))
  numbers_short (suc n) i (suc left) e h =
      let m : i + 4 * suc left ≡ i + 4 + 4 * left = omega arith in
      rw (le-leb (i + 4) (length s) (omega arith)) (ap (refused 3) m ∙ numbers_short n (i + 4) left (omega arith) (omega arith))
