-- Going over the numbers of a range: from, from + 1, .. for count numbers.
use Rattle.std.specs.Prelude.{ℕ, zero, suc, ◌+◌, cond, List, [], ◌∷◌, ◌++◌, eqb}

-- a list of one
abbrev pub only : {A : Type 0} → A → List A
only a = a ∷ []

-- the lists that f gives at each number of the range, joined
unfoldable pub over : {A : Type 0} → (ℕ → List A) → ℕ → ℕ → List A
over f from zero = []
over f from (suc count) = f from ++ over f (from + 1) count

-- the sum of what f gives at each number of the range
unfoldable pub sum : (ℕ → ℕ) → ℕ → ℕ → ℕ
sum f from zero = 0
sum f from (suc count) = f from + sum f (from + 1) count

-- how often x stands in a list
unfoldable pub times : ℕ → List ℕ → ℕ
times x [] = 0
times x (y ∷ ys) = cond (eqb x y) 1 0 + times x ys

-- what f gives at 0, 1, .. for n numbers
abbrev pub table : (ℕ → ℕ) → ℕ → List ℕ
table f n = over (λ i. only (f i)) 0 n
