-- The bytes of a chunk, and numbers of four of them (document 01, 'The chunk').
use Rattle.std.specs.Prelude.{ℕ, ◌+◌, ◌*◌, List, get_or}

-- byte i; past the end 0
abbrev pub byte_at : List ℕ → ℕ → ℕ
byte_at s i = get_or s i 0

-- '4 bytes, unsigned, lowest first'
unfoldable pub int_at : List ℕ → ℕ → ℕ
int_at s i = byte_at s i + 256 * (byte_at s (i + 1) + 256 * (byte_at s (i + 2) + 256 * byte_at s (i + 3)))
