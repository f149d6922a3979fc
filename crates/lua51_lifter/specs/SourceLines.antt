-- The source lines of words (document 02, 2).
use Rattle.std.specs.Prelude.{ℕ, ◌-◌, min, max}
use mathlib.Core.List.{List, [], ◌∷◌, foldl}
use Rattle.basics.specs.Range.{over, only}
use Rattle.lua51_instruction.specs.Proto.{Proto, line_at}

-- the lines of the words from `first` to before `past`
unfoldable pub lines_of : Proto → ℕ → ℕ → List ℕ
lines_of p first past = over (λ i. only (line_at p i)) first (past - first)

-- 'the lowest and highest' of some numbers; 'both are 0' where there are none
unfoldable pub lowest : List ℕ → ℕ
lowest [] = 0
lowest (x ∷ xs) = foldl min x xs

unfoldable pub highest : List ℕ → ℕ
highest [] = 0
highest (x ∷ xs) = foldl max x xs
