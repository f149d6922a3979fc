-- Seven bytes, stored one by one inside the output. Assumes nothing.
use Prim.Native.Nat.{ℕ, zero, suc, ◌+◌, ◌≤◌, min}
use mathlib.Core.Path.{◌≡◌, refl, sym, ap, ◌∙◌}
use mathlib.Core.List.{List, [], ◌∷◌}
use native.Mathlib.Omega.{arith}
use lib.ListN.{length, get_or, set, drop, drop_of_length-le}
use lib.Seq.{drop-cons}
use Rattle.lines.specs.Line.{width}
use Rattle.lines.specs.Out.{output, largest_usize, put, puts}

-- k elements of a list from i on, one by one
abbrev from : ℕ → ℕ → List ℕ → List ℕ
from zero i l = []
from (suc k) i l = get_or l i 0 ∷ from k (suc i) l

unroll : (k i : ℕ) (l : List ℕ) → i + k ≡ length l → drop i l ≡ from k i l
unroll zero i l h =
    let e : length l ≤ i = omega arith in
    drop_of_length-le l e
unroll (suc k) i l h =
    drop-cons l i 0 (omega arith) ∙ ap (λ (t : List ℕ). get_or l i 0 ∷ t) (unroll k (suc i) l (omega arith))

-- seven stores
abbrev stores : List ℕ → ℕ → List ℕ → List ℕ
stores out at l =
    set (set (set (set (set (set (set out at (get_or l 0 0)) (at + 1) (get_or l 1 0)) (at + 1 + 1) (get_or l 2 0))
    (at + 1 + 1 + 1) (get_or l 3 0)) (at + 1 + 1 + 1 + 1) (get_or l 4 0)) (at + 1 + 1 + 1 + 1 + 1) (get_or l 5 0))
    (at + 1 + 1 + 1 + 1 + 1 + 1) (get_or l 6 0)

-- counting does not stop here
inside : (x : ℕ) → x ≤ largest_usize → min x largest_usize ≡ x
inside x h = omega arith

stored : (out : List ℕ) (at : ℕ) (l : List ℕ) → at + width ≤ largest_usize
    → output (stores out at l) (at + 1 + 1 + 1 + 1 + 1 + 1 + 1) ≡ puts (output out at) (from width 0 l)
unfolding puts put
stored out at l h =
    rw (
      inside (at + 1) (omega arith),
      inside (at + 1 + 1) (omega arith),
      inside (at + 1 + 1 + 1) (omega arith),
      inside (at + 1 + 1 + 1 + 1) (omega arith),
      inside (at + 1 + 1 + 1 + 1 + 1) (omega arith),
      inside (at + 1 + 1 + 1 + 1 + 1 + 1) (omega arith),
      inside (at + 1 + 1 + 1 + 1 + 1 + 1 + 1) (omega arith),
    ) refl

-- they print the seven bytes of a list of seven
pub puts_stores : (out : List ℕ) (at : ℕ) (l : List ℕ) → length l ≡ width → at + width ≤ length out → length out ≤ largest_usize
    → output (stores out at l) (at + 1 + 1 + 1 + 1 + 1 + 1 + 1) ≡ puts (output out at) l
puts_stores out at l e h k = stored out at l (omega arith) ∙ ap (puts (output out at)) (sym (unroll width 0 l (sym e)))
