-- A column is short, however large its number. Assumes nothing.
use Prim.Native.Nat.{ℕ, zero, suc, ◌+◌, ◌/◌, ◌%◌, ◌≤◌}
use native.Mathlib.Omega.{arith}
use mathlib.Core.Bool.{Bool, true, false, cond}
use mathlib.Core.List.{List, [], ◌∷◌}
use lib.Dec.{ltb}
use lib.ListN.{length, length-append, length-replicate}
use Rattle.lines.specs.Line.{digit, digits, decimal, column}

-- a number has at most as many digits as are allowed
digits_length : (k x : ℕ) (ds : List ℕ) → length (digits k x ds) ≤ k + length ds
unfolding digits
digits_length zero x ds = omega arith
digits_length (suc k) x ds = go (ltb x 10) (digits_length k (x / 10) (digit (x % 10) ∷ ds))
  where
    go : (b : Bool) → length (digits k (x / 10) (digit (x % 10) ∷ ds)) ≤ k + suc (length ds)
        → length (cond b (digit x ∷ ds) (digits k (x / 10) (digit (x % 10) ∷ ds))) ≤ suc k + length ds
    go true h = omega arith
    go false h = omega arith

pub column_length : (x : ℕ) → length (column x) ≤ 20
unfolding column decimal
column_length x = simp (length-append, length-replicate) (omega (arith, digits_length 20 x []))
