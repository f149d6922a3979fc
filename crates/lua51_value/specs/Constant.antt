-- What a constant of the code stands for, and the constant that is read at each place of a value.
use Rattle.std.specs.Prelude.{ℕ, ◌+◌, ◌-◌, ◌*◌, ◌^◌, ◌≤◌, cond, not, List, ◌≡◌, ltb, eqb, length, take, drop}
use Rattle.std.specs.Float.{binary64}
use Rattle.std.specs.Float.Ieee.{of_bits, to_bits, nan_bits}
use Rattle.lua51_instruction.specs.Word.{bits}
use Rattle.lua51_value.specs.Value.{Value, kind_nil, kind_boolean, kind_number, value_at}
use Rattle.lua51_value.specs.Bytes.{byte_at, int_at}
use Rattle.lua51_value.specs.Value as value
use Rattle.lua51_value.specs.declared.value.Constant.{Constant}
use Rattle.lua51_value.specs.declared.value.Constant.TheVariants.{Nil, Boolean, Number, NotANumber, String}
use Rattle.lua51_value.specs.declared.value.Pieces.{Pieces}

-- ------------------------------------------------------------ numbers

-- 'A float keeps all its bits': the 64 bits at i, the lowest byte first
unfoldable pub pattern_at : List ℕ → ℕ → ℕ
pattern_at s i = int_at s i + 2 ^ 32 * int_at s (i + 4)

-- the number that 64 bits stand for; those of a NaN stand for themselves
unfoldable pub number_of : ℕ → Constant
number_of n = cond (nan_bits binary64 n) (NotANumber n) (Number (of_bits binary64 n))

-- the 64 bits of a number; 0 of the other constants
unfoldable pub pattern_of : Constant → ℕ
pattern_of Nil = 0
pattern_of (Boolean b) = 0
pattern_of (Number x) = to_bits binary64 x
pattern_of (NotANumber n) = n
pattern_of (String at len) = 0

-- 'number as four 16-bit pieces, highest first'
abbrev pub pieces_of : ℕ → Pieces
pieces_of n = record { highest = bits 48 16 n; higher = bits 32 16 n; lower = bits 16 16 n; lowest = bits 0 16 n }

-- ------------------------------------------------------------ constants

-- 'a constant is nil, a boolean, a 64-bit float, or a string's place and length': the value that it stands for in the
-- bytes s
unfoldable pub value_of : List ℕ → Constant → Value
value_of s Nil = value.nil
value_of s (Boolean b) = value.boolean (cond b 1 0)
value_of s (Number x) = value.number (to_bits binary64 x)
value_of s (NotANumber n) = value.number n
value_of s (String at len) = value.text (take len (drop at s))

-- a place, or the end of the bytes where that comes first
abbrev pub within : List ℕ → ℕ → ℕ
within s i = cond (ltb i (length s)) i (length s)

-- the constant at i. Where no constant was read at i, a boolean above 1 is true, a kind that is not listed is a string's,
-- and bytes behind the last read 0
unfoldable pub constant_at : List ℕ → ℕ → Constant
constant_at s i =
    cond (eqb (byte_at s i) kind_nil) Nil
    (cond (eqb (byte_at s i) kind_boolean) (Boolean (not (eqb (byte_at s (i + 1)) 0)))
    (cond (eqb (byte_at s i) kind_number) (number_of (pattern_at s (i + 1)))
    (String (within s (i + 5)) (int_at s (i + 1) - 1))))

-- c is what is read at i; and unless that is a boolean above 1, which refusal 4 rules out, c stands for its value
pub record Reads (s : List ℕ) (i : ℕ) (c : Constant) : Type 0 where
  pub answer : c ≡ constant_at s i
  pub meaning : (byte_at s i ≡ kind_boolean → byte_at s (i + 1) ≤ 1) → value_of s c ≡ value_at s i
