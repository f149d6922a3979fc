-- The captures behind a CLOSURE, by words and the marks of leaders (document 01, refusal 13).
use Rattle.std.specs.Prelude.{ℕ, zero, suc, ◌+◌, Bool, true, not, ◌&&◌, ◌||◌, List, ltb, eqb, length, get_or}
use Rattle.lua51_instruction.specs.Word.{number_of, field_opcode, MOVE, GETUPVAL}

-- 'a MOVE or GETUPVAL'
abbrev pub is_capture : ℕ → Bool
is_capture w = eqb (field_opcode w) (number_of MOVE) || eqb (field_opcode w) (number_of GETUPVAL)

-- word `at` and those behind it, n words, are captures, and none of them has the mark of a leader
unfoldable pub captures_from : List ℕ → List ℕ → ℕ → ℕ → Bool
captures_from words marks at zero = true
captures_from words marks at (suc n) =
    (ltb at (length words) && is_capture (get_or words at 0) && not (eqb (get_or marks at 0) 1)) && captures_from words marks (at + 1) n
