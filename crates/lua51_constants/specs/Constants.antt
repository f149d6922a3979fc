-- The F and K lines by what the code holds: a function's head, and the places of its constants in the chunk.
use Rattle.std.specs.Prelude.{ℕ, ◌+◌, ◌%◌, ◌^◌, ◌≤◌, ◌<◌, List, [], ◌∷◌, ◌++◌, ◌≡◌, length, get_or}
use Rattle.lines.specs.Line.{line, letter_f, letter_k}
use Rattle.lines.specs.Out.{Puts}
use Rattle.lines.specs.declared.Output.{Output}
use Rattle.lua51_value.specs.Value.{Value, kind_of, value_at}
use Rattle.lua51_deserializer.specs.Chunk.{here, constant, most}
use Rattle.lua51_value.specs.Value as values
use Rattle.lua51_value.specs.Constant.{value_of, constant_at}
use Rattle.lua51_function.specs.declared.function.Head.{Head}
use Rattle.lua51_lifter.specs.Listing.{value, constant_lines}

-- 'F: function, parameters, upvalues, stack.'
unfoldable pub function_line : Head → List ℕ
function_line h = line letter_f (h.number ∷ h.parameters ∷ h.upvalues ∷ h.stack ∷ [])

-- 'kind, value'
unfoldable pub numbers_of : Value → List ℕ
numbers_of v = kind_of v ∷ value v

-- 'K per constant: index, kind, value'
unfoldable pub constant_line : ℕ → Value → List ℕ
constant_line i v = line letter_k (i ∷ numbers_of v)

-- the value of the constant that is read at a place, be it one of a function or not
abbrev pub read_at : List ℕ → ℕ → Value
read_at s place = value_of s (constant_at s place)

-- an index in 32 bits: they hold that of every constant of a function within the limits
abbrev pub short : ℕ → ℕ
short i = i % 2 ^ 32

-- the K lines of what is read at each place; i is the index of the first
unfoldable pub place_lines : List ℕ → ℕ → List ℕ → List ℕ
place_lines s i [] = []
place_lines s i (p ∷ ps) = constant_line (short i) (read_at s p) ++ place_lines s (i + 1) ps

-- a printer of the constant at a place made o' of the output o; where a constant was read there, it printed its value
pub record PrintsConstant (s : List ℕ) (i place : ℕ) (o o' : Output) : Type 0 where
  pub answer : Puts o o' (constant_line i (read_at s place))
  pub meaning : (j : ℕ) → constant s place ≡ here j → Puts o o' (constant_line i (value_at s place))

-- at each of these places a constant was read, and vs are their values
pub record AreRead (s places : List ℕ) (vs : List Value) : Type 0 where
  pub few : length places ≤ most
  pub count : length vs ≡ length places
  pub constant : (i : ℕ) → i < length places → (j : ℕ) × (constant s (get_or places i 0) ≡ here j)
  pub value : (i : ℕ) → i < length places → value_at s (get_or places i 0) ≡ get_or vs i values.nil

-- a printer of the constants at these places made o' of the output o; where constants were read there, it printed their
-- values
pub record PrintsConstants (s places : List ℕ) (o o' : Output) : Type 0 where
  pub answer : Puts o o' (place_lines s 0 places)
  pub meaning : (vs : List Value) → AreRead s places vs → Puts o o' (constant_lines 0 vs)
