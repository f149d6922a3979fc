-- The constants of a function (document 01, 'The chunk'), and the value of each as the bytes have it.
use Rattle.std.specs.Prelude.{ℕ, ◌+◌, ◌-◌, ◌*◌, ◌^◌, cond, List, eqb, take, drop}
use Rattle.lua51_value.specs.Bytes.{byte_at, int_at}

-- 'constants (kinds 0 nil, 1 boolean, 3 number, 4 string)'
abbrev pub kind_nil : ℕ
kind_nil = 0

abbrev pub kind_boolean : ℕ
kind_boolean = 1

abbrev pub kind_number : ℕ
kind_number = 3

abbrev pub kind_string : ℕ
kind_string = 4

-- 'a constant is nil, a boolean, a 64-bit float, or a string's place and length. A float keeps all its bits': `number` has
-- its 64 bits as one number; `text` has its bytes 'without the 0'
pub data Value : Type 0 where
  nil : Value
  boolean : ℕ → Value
  number : ℕ → Value
  text : List ℕ → Value

unfoldable pub kind_of : Value → ℕ
kind_of nil = kind_nil
kind_of (boolean b) = kind_boolean
kind_of (number n) = kind_number
kind_of (text t) = kind_string

-- the constant at i
unfoldable pub value_at : List ℕ → ℕ → Value
value_at s i =
    cond (eqb (byte_at s i) kind_nil) nil
    (cond (eqb (byte_at s i) kind_boolean) (boolean (byte_at s (i + 1)))
    (cond (eqb (byte_at s i) kind_number) (number (int_at s (i + 1) + 2 ^ 32 * int_at s (i + 5)))
    (text (take (int_at s (i + 1) - 1) (drop (i + 5) s)))))
