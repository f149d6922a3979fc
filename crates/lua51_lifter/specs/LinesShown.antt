-- Source lines on each block (document 02, 2): what is promised of the two numbers at the end of a B line.
use Rattle.std.specs.Prelude.{ℕ, ◌≤◌, ◌<◌, cond, ◌≡◌, List, [], ◌∷◌, map, eqb, length, take}
use Rattle.lines.specs.Line.{letter_b}
use Rattle.lua51_instruction.specs.Proto.{Proto, line_at}
use Rattle.lua51_value.specs.Value.{Value}
use Rattle.lua51_lifter.specs.Blocks.{Block, kind_code, Named, graph, block_at}
use Rattle.lua51_lifter.specs.Listing.{Item, item, block_item, function_items, named_numbers, source_lines, items}
use Rattle.lua51_lifter.specs.Check.{check, fine, most_line}

-- ------------------------------------------------------------ without the two numbers

-- a B line that ends with its kind
abbrev pub no_lines : {X : Type 0} → Block X → List ℕ
no_lines b = []

-- request 1's lines
unfoldable pub unlined_items : Proto → List Value → List Item
unlined_items p vs = function_items named_numbers no_lines p vs (graph p)

-- a B line without what it gains 'at the end': its block, first word, one past the last and kind; and every other line as it is
unfoldable pub without_lines : Item → Item
without_lines x = item x.letter (cond (eqb x.letter letter_b) (take 4 x.numbers) x.numbers)

-- without the two numbers the lines are request 1's
abbrev pub LinesAlone : Type 0
LinesAlone = (p : Proto) (vs : List Value) → map without_lines (items p vs) ≡ unlined_items p vs

-- ------------------------------------------------------------ the two numbers

-- x is the line of a word of the block
abbrev pub LineOf : Proto → Block Named → ℕ → Type 0
LineOf p b x = (i : ℕ) × (b.first ≤ i) × (i < b.past) × (line_at p i ≡ x)

-- 'the lowest and highest line of the block's words': both are lines of its words, and no word's line is outside them
pub record Spans (p : Proto) (b : Block Named) (low high : ℕ) : Type 0 where
  pub lowest : LineOf p b low
  pub highest : LineOf p b high
  pub within : (i : ℕ) → b.first ≤ i → i < b.past → (low ≤ line_at p i) × (line_at p i ≤ high)

-- the B line of a block, whatever its number, and the two numbers at its end
pub record Lined (p : Proto) (b : Block Named) : Type 0 where
  pub low : ℕ
  pub high : ℕ
  pub shown : (n : ℕ) → block_item named_numbers (source_lines p) n b ≡ item letter_b (n ∷ b.first ∷ b.past ∷ b.kind ∷ low ∷ high ∷ [])
  pub words : b.first < b.past → Spans p b low high
  -- 'both are 0 for an empty range, entry, between, or a function without lines'
  pub empty : b.past ≤ b.first → (low ≡ 0) × (high ≡ 0)
  pub others : (b.kind ≡ kind_code → ⊥) → (low ≡ 0) × (high ≡ 0)
  pub without : length p.lines ≡ 0 → (low ≡ 0) × (high ≡ 0)
  -- neither is a line that 15 refuses
  pub few : (low ≤ most_line) × (high ≤ most_line)

-- every block of every accepted function
abbrev pub ShowsLines : Type 0
ShowsLines = (p : Proto) → check p ≡ fine → (b : ℕ) → Lined p (block_at p b)
