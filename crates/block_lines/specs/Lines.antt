-- What the printers of blocks go by: a function in which nothing is refused, what the code holds of it, and the notes of its graph.
use Rattle.std.specs.Prelude.{ℕ, ◌-◌, ◌≤◌, min, max, cond, List, [], ◌∷◌, ◌≡◌}
use Rattle.lua51_instruction.specs.Proto.{Proto, size}
use Rattle.lua51_deserializer.specs.Chunk.{most_words}
use Rattle.basics.specs.Range.{over, only}
use Rattle.lua51_function.specs.Function.{Shows, line_in, HasLines}
use Rattle.lua51_function.specs.declared.function.View.{View}
use Rattle.cfg.specs.Graph.{leader, block_of, diverted, between_of}
use Rattle.cfg_notes.specs.Notes.{notes_of}
use Rattle.lua51_lifter.specs.Check.{check, fine}
use Rattle.lua51_lifter.specs.Blocks.{naming, code_block, between_block}
use Rattle.lua51_lifter.specs.Listing.{block_line}
use Rattle.block_lines.specs.declared.blocks.Block.{Block}
use Rattle.block_lines.specs.declared.sources.Span.{Span}
use Rattle.block_lines.specs.declared.blocks.Drawn.{Drawn}
use Rattle.block_lines.specs.declared.blocks.BlockKind.{BlockKind}
use Rattle.block_lines.specs.declared.blocks.BlockKind.TheVariants.{Code, Entry, Between}

-- how many numbers a buffer has that holds every run of an accepted function
abbrev pub run_numbers : ℕ
run_numbers = 4096

-- nothing in p is refused, and what is drawn has its words and the notes of its graph
pub record Checked (p : Proto) (d : Drawn) : Type 0 where
  pub words : p.words ≡ d.function.words.now
  pub fine : check p ≡ fine
  pub notes : d.notes.now ≡ notes_of p

-- nothing in p is refused and it is within the limits, and the code holds it: v is how it is seen (its head, its words, the numbers
-- of its nested functions and their counts of upvalues), and ls are the bytes of its word lines
pub record Held (p : Proto) (v : View) (ls : List ℕ) : Type 0 where
  pub fine : check p ≡ fine
  pub few : size p ≤ most_words
  pub kinds : List ℕ
  pub stands : Shows p kinds v
  pub lines : HasLines p ls

-- the code holds p, and what is drawn is what it holds and the notes of its graph
pub record Draws (p : Proto) (d : Drawn) : Type 0 where
  pub held : Held p d.function d.lines.now
  pub notes : d.notes.now ≡ notes_of p

-- the lines of the words from `first` to before `past`, by the bytes of word lines
abbrev pub lines_in : List ℕ → ℕ → ℕ → List ℕ
lines_in ls first past = over (λ i. only (line_in ls i)) first (past - first)

-- a span with one line more
abbrev pub widened : Span → ℕ → Span
widened s line = record { lowest = min s.lowest line; highest = max s.highest line }

-- 'kind (0 code, 1 entry, 2 between'
abbrev pub number_of : BlockKind → ℕ
number_of Code = 0
number_of Entry = 1
number_of Between = 2

-- the numbers of a B line: 'block, first word, one past the last, kind', and (document 02, 2) 'the lowest and highest line' at the end
abbrev pub block_numbers : Block → List ℕ
block_numbers b = b.number ∷ b.first ∷ b.past ∷ number_of b.kind ∷ b.span.lowest ∷ b.span.highest ∷ []

-- the lines of the block whose range starts at word j, where one does
unfoldable pub code_lines : Proto → ℕ → List ℕ
code_lines p j = cond (leader p j) (block_line p (block_of p j) (code_block naming p j)) []

-- the lines of the between block of word i, where it has one
unfoldable pub between_lines : Proto → ℕ → List ℕ
between_lines p i = cond (diverted p i) (block_line p (between_of p i) (between_block naming p i)) []
