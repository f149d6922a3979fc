-- Words from their fields (lopcodes.h's CREATE_ABC and CREATE_ABx): the fields read back, for small words of known content.
use Rattle.std.specs.Prelude.{ℕ, ◌+◌, ◌-◌, ◌*◌, ◌^◌}
use Rattle.lua51_instruction.specs.Word.{Op, number_of, bias}

-- opcode, A, B, C
abbrev pub abc : Op → ℕ → ℕ → ℕ → ℕ
abc o a b c = number_of o + 2 ^ 6 * a + 2 ^ 14 * c + 2 ^ 23 * b

-- opcode, A, Bx
abbrev pub abx : Op → ℕ → ℕ → ℕ
abx o a bx = number_of o + 2 ^ 6 * a + 2 ^ 14 * bx

-- opcode, A, and the sBx with which word i goes to word t
abbrev pub jumps : Op → ℕ → ℕ → ℕ → ℕ
jumps o a i t = abx o a (bias + t - (i + 1))
