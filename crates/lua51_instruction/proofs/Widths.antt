-- Bits of a number, over the field's width: 6, 8, 9 and 18 of a word, 16 of a piece. Assumes nothing.
use Prim.Native.Nat.{ℕ, ◌<◌, ◌*◌, ◌/◌, ◌%◌, ◌^◌}
use mathlib.Core.Path.{◌≡◌, ◌∙◌, ap}
use native.Mathlib.Nat.{one-mul, mod-lt, mod-eq_of_lt}
use lib.Pow.{pow_pos, pow-lt}
use Rattle.lua51_instruction.specs.Word.{bits}

-- an operand fits its field
pub below : (from width w : ℕ) → bits from width w < 2 ^ width
below from width w = mod-lt (w / 2 ^ from) (pow_pos width)

-- how many numbers a field can hold, as the machine computes it
pub size : (width : ℕ) → width < 64 → 1 * 2 ^ width % 2 ^ 64 ≡ 2 ^ width
size width h = ap (λ (n : ℕ). n % 2 ^ 64) (one-mul (2 ^ width)) ∙ mod-eq_of_lt (pow-lt h)
