-- The word behind a statement (document 02, 1): what is promised of every accepted function.
use Rattle.std.specs.Prelude.{ℕ, ◌+◌, ◌-◌, ◌≤◌, ◌<◌, Bool, true, false, cond, ◌||◌, ◌≡◌, ◌⊎◌, List, [], ◌∷◌, ◌++◌, map, ltb, eqb, get_or, drop}
use Rattle.lines.specs.Line.{letter_s}
use Rattle.lua51_instruction.specs.Word.{JMP}
use Rattle.lua51_instruction.specs.Proto.{Proto, size, opcode, is}
use Rattle.lua51_value.specs.Value.{Value}
use Rattle.ast.specs.Statement.{Expr, Exprs, register, constant, nil, boolean, upvalue, global, index, unary, binary}
use Rattle.ast.specs.Statement.{call, vararg, closure, table, select, mark, []ᵉ, ◌∷ᵉ◌, expr}
use Rattle.ast.specs.Statement.{Stmt, assign, call_statement, if_statement, return, for_init, for_next, set_list, close}
use Rattle.ast.specs.Statement.{no_tail, open_tail, run}
use Rattle.cfg.specs.Graph.{block_of, entry_of, then_of, then_edge}
use Rattle.lua51_lifter.specs.Lift.{statements, on_then, pending}
use Rattle.lua51_lifter.specs.Blocks.{leads, entry_nils, entry_opcode, blocks, Named, unnamed, block_at}
use Rattle.lua51_lifter.specs.Listing.{Item, item, statement_item, function_items, named_numbers, items}
use Rattle.lua51_lifter.specs.LinesShown.{no_lines, without_lines}
use Rattle.lua51_lifter.specs.Check.{opener, user, check, fine}

-- ------------------------------------------------------------ without the two columns

-- 'what document 01 compares': its S line has the numbers of the statement alone, its B line ends with the kind
unfoldable pub compared_items : Proto → List Value → List Item
compared_items p vs = function_items run no_lines p vs (blocks unnamed p)

-- an S line 'without these two columns', and every other line as it is
unfoldable pub without_columns : Item → Item
without_columns x = item x.letter (cond (eqb x.letter letter_s) (drop 2 x.numbers) x.numbers)

-- 'Without these two columns the lines equal what document 01 compares'; 'Comparisons with `Lifter::lift` skip both' lines of a
-- B line too (document 02, 2)
abbrev pub ColumnsAlone : Type 0
ColumnsAlone = (p : Proto) (vs : List Value) → map without_columns (map without_lines (items p vs)) ≡ compared_items p vs

-- ------------------------------------------------------------ the statements that name a word

-- the S lines of block b
abbrev pub statements_at : Proto → ℕ → List Item
statements_at p b = map (statement_item named_numbers) (block_at p b).body

-- the word that an S line names: its first number
abbrev pub word_of : Item → ℕ
word_of x = get_or x.numbers 0 0

-- 'The statements naming a word', in their order
unfoldable pub naming_only : ℕ → List Item → List Item
naming_only i [] = []
naming_only i (x ∷ xs) = let rest = naming_only i xs in cond (eqb (word_of x) i) (x ∷ rest) rest

-- the S lines of block b that name word i
abbrev pub quoted : Proto → ℕ → ℕ → List Item
quoted p b i = naming_only i (statements_at p b)

-- the S lines of statements, with 'two leading numbers: the word's index and its opcode'
abbrev pub led : ℕ → ℕ → List Stmt → List Item
led i o ss = map (λ s. item letter_s (i ∷ o ∷ run s)) ss

-- the number of word i's own block: the last leader up to i starts it
abbrev pub own_block : Proto → ℕ → ℕ
own_block p i = block_of p (i + 1) - 1

-- the number of the block that word i's Then edge leads to, be it a between block
abbrev pub then_block : Proto → ℕ → ℕ
then_block p i = (leads p i (then_edge (then_of p i))).to

-- the S lines of block b by the words that they name
pub record Quoted (p : Proto) (b : ℕ) : Type 0 where
  -- 'The statements naming a word are exactly those that document 01's rule for it yields': its assignment on Then in the
  -- block that its Then edge leads to, and its other statements in its own
  pub by_word : (i : ℕ) → i < size p
      → quoted p b i
      ≡ cond (eqb b (then_block p i)) (led i (opcode p i) (on_then p i)) []
      ++ cond (eqb b (own_block p i)) (led i (opcode p i) (statements p i)) []
  -- 'Entry statements carry n and 99', and no others do
  pub by_entry : quoted p b (size p) ≡ cond (eqb b (entry_of p)) (led (size p) entry_opcode (entry_nils p)) []
  pub by_none : (i : ℕ) → size p < i → quoted p b i ≡ []

-- the range of word i's own block holds it, and its statements stand there one after the other
pub record Own (p : Proto) (i : ℕ) : Type 0 where
  pub from : (block_at p (own_block p i)).first ≤ i
  pub below : i < (block_at p (own_block p i)).past
  pub before : List Item
  pub after : List Item
  pub stand : statements_at p (own_block p i) ≡ before ++ (led i (opcode p i) (statements p i) ++ after)

-- ------------------------------------------------------------ their order

-- the words that S lines name never fall, from k on
abbrev pub Rising : ℕ → List Item → Type 0
Rising k [] = Unit {0}
Rising k (x ∷ xs) = (k ≤ word_of x) × Rising (word_of x) xs

-- xs is nothing, or the assignment of a word whose Then edge leads to block b
abbrev pub Brought : Proto → ℕ → List Item → Type 0
Brought p b xs = (xs ≡ []) ⊎ ((i : ℕ) × (i < size p) × (b ≡ then_block p i) × (xs ≡ led i (opcode p i) (on_then p i)))

-- 'behind an assignment put at a block's front the indexes never fall': block b begins with what its Then edges bring, all of
-- it and nothing else, and behind that the indexes never fall
pub record Behind (p : Proto) (b : ℕ) : Type 0 where
  pub lead : List Item
  pub rest : List Item
  pub parts : statements_at p b ≡ lead ++ rest
  pub all : (i : ℕ) → i < size p → b ≡ then_block p i → naming_only i lead ≡ led i (opcode p i) (on_then p i)
  pub alone : Brought p b lead
  pub rising : Rising 0 rest

-- ------------------------------------------------------------ open tails

-- the arguments of a call, also of one that is selected from
unfoldable pub arguments_of : Expr → Exprs
arguments_of (register r) = []ᵉ
arguments_of (constant k) = []ᵉ
arguments_of nil = []ᵉ
arguments_of (boolean b) = []ᵉ
arguments_of (upvalue u) = []ᵉ
arguments_of (global k) = []ᵉ
arguments_of (index x y) = []ᵉ
arguments_of (unary o x) = []ᵉ
arguments_of (binary o x y) = []ᵉ
arguments_of (call f xs) = xs
arguments_of vararg = []ᵉ
arguments_of (closure f xs) = []ᵉ
arguments_of table = []ᵉ
arguments_of (select x) = arguments_of x
arguments_of mark = []ᵉ

-- a value that is a call or vararg ('10 call', '11 vararg') is open
unfoldable pub some_open : Exprs → Bool
some_open []ᵉ = false
some_open (x ∷ᵉ xs) = let kind = get_or (expr x) 0 0 in eqb kind 10 || eqb kind 11 || some_open xs

unfoldable pub some_call_open : Exprs → Bool
some_call_open []ᵉ = false
some_call_open (x ∷ᵉ xs) = some_call_open xs || some_open (arguments_of x)

-- 'A statement with an open tail': a return of, a call with or a set list of values of which one is open
unfoldable pub open_tailed : Stmt → Bool
open_tailed (assign ls rs) = some_call_open rs
open_tailed (call_statement x) = some_open (arguments_of x)
open_tailed (if_statement x) = false
open_tailed (return xs) = some_open xs
open_tailed (for_init a b c) = false
open_tailed (for_next a b c) = false
open_tailed (set_list r i xs no_tail) = some_open xs
open_tailed (set_list r i xs (open_tail x)) = true
open_tailed (close rs) = false

-- each of them 'names the user'
abbrev pub TailsNamed : Proto → List Named → Type 0
TailsNamed p [] = Unit {0}
TailsNamed p (s ∷ ss) = (open_tailed s.says ≡ true → user p s.word ≡ true) × TailsNamed p ss

-- ------------------------------------------------------------ words that no statement names

-- captures, openers and JMP
unfoldable pub silent : Proto → ℕ → Bool
silent p i = ltb 0 (pending p i) || opener p i || is p i JMP

-- ------------------------------------------------------------ the promise

pub record WordsBehind (p : Proto) : Type 0 where
  pub quotes : (b : ℕ) → Quoted p b
  pub own : (i : ℕ) → i < size p → Own p i
  pub behind : (b : ℕ) → Behind p b
  -- 'A statement with an open tail names the user, not the opener', as no statement names an opener
  pub tails : (b : ℕ) → TailsNamed p (block_at p b).body
  pub silence : (b i : ℕ) → i < size p → silent p i ≡ true → quoted p b i ≡ []

-- every accepted function
abbrev pub NamesWords : Type 0
NamesWords = (p : Proto) → check p ≡ fine → WordsBehind p
