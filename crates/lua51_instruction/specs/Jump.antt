-- Jumps: the signed operand sBx, and the word that a jump leads to (document 01, under instruction/mod.rs and
-- lifter.rs).
use Rattle.std.specs.Prelude.{ℕ, ◌+◌, ◌-◌, Bool, true, false, cond, leb, ltb, ℤ, pos, negsuc, ◌+ℤ◌, ◌-ℤ◌, Option, Some, None}
use Rattle.lua51_instruction.specs.Word.{field_bx, bias}

-- 'sBx = Bx − 131,071'
abbrev pub s_bx : ℕ → ℤ
s_bx w = pos (field_bx w) -ℤ pos bias

-- the one of n words that an integer is; none where it is 'outside 0 to n − 1'
abbrev pub among_words : ℕ → ℤ → Option ℕ
among_words n (pos t) = cond (ltb t n) (Some t) None
among_words n (negsuc t) = None

-- the largest i32
abbrev pub largest_i32 : ℕ
largest_i32 = 2147483647

-- the last word number from which word + 1 + sBx is below that, whatever sBx is: 131,072 at most
abbrev pub last_jump : ℕ
last_jump = largest_i32 - 131074

-- 'jump target (word + 1 + sBx)': that of the jump w, which is word i of n words. From behind `last_jump` all lead outside; no
-- chunk has such a word, since 'Words above 8,192' is refusal 4
unfoldable pub target_of : ℕ → ℕ → ℕ → Option ℕ
target_of i n w = cond (leb i last_jump) (among_words n (pos (i + 1) +ℤ s_bx w)) None

-- a target is a word
abbrev pub is_word : Option ℕ → Bool
is_word (Some t) = true
is_word None = false

-- the word that it is, or another in place of one outside
abbrev pub word_or : ℕ → Option ℕ → ℕ
word_or other (Some t) = t
word_or other None = other
