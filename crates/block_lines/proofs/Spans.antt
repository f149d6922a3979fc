-- The lowest and the highest line of a range: the lines of its words, and what the bytes say of the function. Assumes nothing.
use Rattle.std.specs.Prelude.{fold}
use Rattle.std.specs.List.{range_with_len}
use Prim.Native.Nat.{ℕ, zero, suc, ◌+◌, ◌-◌, ◌≤◌, ◌<◌, min, max}
use native.Mathlib.Omega.{arith}
use mathlib.Core.List.{List, [], foldl}
use mathlib.Core.Path.{◌≡◌, ◌∙◌, refl, sym}
use Rattle.basics.specs.Range.{over, only}
use Rattle.basics.proofs.Range.{over_none}
use Rattle.lua51_instruction.specs.Proto.{Proto}
use Rattle.lua51_function.specs.Function.{line_in, HasLines}
use Rattle.lua51_lifter.specs.SourceLines.{lines_of, lowest, highest}
use Rattle.block_lines.specs.Lines.{lines_in, widened}
use Rattle.block_lines.specs.declared.sources.Span.{Span}

module _ (ls : List ℕ) where
  -- none is left
  pub no_lines : (first past : ℕ) → past ≤ first → lines_in ls first past ≡ []
  no_lines first past h = over_none (λ i. only (line_in ls i)) first (past - first) (λ i lt. absurd (omega arith))

  abbrev lines_from : ℕ → ℕ → List ℕ
  lines_from next k = over (λ i. only (line_in ls i)) next k

  -- a span and k lines more, one after the other, are the lowest and the highest of all
  widened_all : (k next : ℕ) (s : Span)
      → fold (λ s i. widened s (line_in ls i)) s (range_with_len next k)
      ≡ record { lowest = foldl min s.lowest (lines_from next k); highest = foldl max s.highest (lines_from next k) }
  unfolding over
  widened_all zero next s = refl
  widened_all (suc k) next s = widened_all k (next + 1) (widened s (line_in ls next))

  -- the first line and those behind it
  module _ (first past line : ℕ) (some : first < past) (e : line ≡ line_in ls first) {s : Span}
      (all : s ≡ fold (λ s i. widened s (line_in ls i)) (record { lowest = line; highest = line }) (range_with_len (first + 1) (past - (first + 1)))) where
    words : past - first ≡ suc (past - (first + 1))
    words = omega arith

    whole : s ≡ record { lowest = foldl min line (lines_in ls (first + 1) past); highest = foldl max line (lines_in ls (first + 1) past) }
    whole = all ∙ widened_all (past - (first + 1)) (first + 1) (record { lowest = line; highest = line })

    pub lowest_all : s.lowest ≡ lowest (lines_in ls first past)
    unfolding lowest over
    lowest_all = rw (whole, words, e)

    pub highest_all : s.highest ≡ highest (lines_in ls first past)
    unfolding highest over
    highest_all = rw (whole, words, e)

-- the bytes of a function's word lines have its lines
pub lines_read : (p : Proto) (ls : List ℕ) → HasLines p ls → (first past : ℕ) → lines_in ls first past ≡ lines_of p first past
unfolding lines_of
lines_read p ls read first past = λ j. over (λ i. only (sym (read i) j)) first (past - first)
