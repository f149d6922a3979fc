-- A number in 7 columns, read back (document 02, 3: 'a number in 7 columns, as a listing prints it, and a line feed').
use Rattle.std.specs.Prelude.{ℕ, suc, ◌+◌, ◌-◌, ◌*◌, ◌≤◌, Bool, cond, ◌&&◌, List, [], ◌∷◌, ◌++◌, ◌≡◌, Option, Some, None, eqb, leb, ltb, length, get_or, take, drop}
use Rattle.lines.specs.Line.{line_feed, blank, digit, width, column}
use Rattle.lines.specs.Cell.{most_in_columns}

-- what bytes say: a number, or none, since they have another form
pub data Numeral : Type 0 where
  number : ℕ → Numeral
  other_form : Numeral

-- ------------------------------------------------------------ reading

abbrev pub is_digit : ℕ → Bool
is_digit b = leb (digit 0) b && leb b (digit 9)

-- what the digits bs say behind digits that say x
unfoldable pub digits_say : ℕ → List ℕ → Numeral
digits_say x [] = number x
digits_say x (b ∷ bs) = let more = digits_say (10 * x + (b - digit 0)) bs in cond (is_digit b) more other_form

-- a number has no zeros before it, and 0 is one digit
abbrev pub leading_zero : ℕ → List ℕ → Bool
leading_zero b bs = eqb b (digit 0) && ltb 0 (length bs)

-- 'as a listing prints it': blanks, then digits, at least one
unfoldable pub column_says : List ℕ → Numeral
column_says [] = other_form
column_says (b ∷ bs) =
    let behind = column_says bs in
    let digits = digits_say 0 (b ∷ bs) in
    cond (eqb b blank) behind (cond (leading_zero b bs) other_form digits)

-- 'a number in 7 columns .. and a line feed': 8 bytes
abbrev pub line_length : ℕ
line_length = suc width

-- what the line from byte i on says. One that is cut has no line feed in its place
unfoldable pub line_says : List ℕ → ℕ → Numeral
line_says s i = let columns = column_says (take width (drop i s)) in cond (eqb (get_or s (i + width) 0) line_feed) columns other_form

-- the same for what the code gives
abbrev pub numeral_of : Option ℕ → Numeral
numeral_of (Some x) = number x
numeral_of None = other_form

-- ------------------------------------------------------------ printing, and what is promised of the two

abbrev pub number_line : ℕ → List ℕ
number_line x = column x ++ (line_feed ∷ [])

-- What a listing prints for a number to 9,999,999, its 7 columns or a line of them, says this number; and nothing else says a number.
pub record ReadsBack : Type 0 where
  pub column_read_back : (x : ℕ) → x ≤ most_in_columns → column_says (column x) ≡ number x
  pub column_only : (bs : List ℕ) (x : ℕ) → length bs ≡ width → column_says bs ≡ number x
      → (x ≤ most_in_columns) × (bs ≡ column x)
  pub line_read_back : (s : List ℕ) (i x : ℕ) → x ≤ most_in_columns → take line_length (drop i s) ≡ number_line x → line_says s i ≡ number x
  pub line_only : (s : List ℕ) (i x : ℕ) → line_says s i ≡ number x
      → (x ≤ most_in_columns) × (take line_length (drop i s) ≡ number_line x)
