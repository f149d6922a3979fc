-- The function that the code holds as a head and lists of numbers, and what the buffers hold once it is read.
use Rattle.std.specs.Prelude.{List, [], ◌∷◌, ◌++◌, map, ◌≡◌, ℕ, zero, suc, ◌+◌, ◌-◌, ◌*◌, ◌≤◌, ◌<◌, min, get_or, length, take, drop, Result, Ok}
use Rattle.lua51_instruction.specs.Proto.{Proto, reworded, line_at}
use Rattle.lua51_deserializer.specs.Chunk.{here, ◌then◌, offset, constant, head, code, constants, lines, locals, names, Place, nowhere, walked, walk, bytes_of, words_of, constants_of, proto_at, most, most_bytes, most_flags, most_functions, most_words, constants_at}
use Rattle.lua51_value.specs.Bytes.{byte_at, int_at}
use Rattle.lua51_value.specs.Value.{kind_of, value_at, nil}
use Rattle.lua51_value.specs.Constant.{within}
use Rattle.basics.specs.Range.{over, only}
use Rattle.lua51_deserializer.specs.Cursor.{read_of}
use Rattle.lua51_deserializer.specs.Walked.{place_at, places_of}
use Rattle.lua51_deserializer.specs.declared.chunk.Functions.{Functions}
use Rattle.lua51_deserializer.specs.declared.fields.ChunkFault.{ChunkFault}
use Rattle.lua51_function.specs.declared.function.Head.{Head}
use Rattle.lua51_function.specs.declared.function.View.{View}
use Rattle.lua51_function.specs.declared.function.Loaded.{Loaded}

-- p is the function whose head is h, and whose words (ws), kinds of constants (ks), numbers of nested functions (ns) and their
-- counts of upvalues (us) are these. Of its word lines only the count is held: they are read from the chunk's bytes (`HasLines`).
pub record Stands (p : Proto) (h : Head) (ws ks ns us : List ℕ) : Type 0 where
  pub number : p.number ≡ h.number
  pub parameters : p.parameters ≡ h.parameters
  pub upvalues : p.upvalues ≡ h.upvalues
  pub flags : p.flags ≡ h.flags
  pub stack : p.stack ≡ h.stack
  pub lines : length p.lines ≡ h.lines
  pub names : p.names ≡ h.names
  pub words : p.words ≡ ws
  pub kinds : p.kinds ≡ ks
  pub nested : p.nested ≡ ns
  pub nups : p.nups ≡ us

-- p is the function that is seen, whose constants are of the kinds ks
abbrev pub Shows : Proto → List ℕ → View → Type 0
Shows p ks v = Stands p v.head v.words.now ks v.nested.now v.nups.now

-- ------------------------------------------------------------ the table of functions

-- how many functions the table holds: those that have begun, and it has room for 256
abbrev pub held_count : Functions → ℕ
held_count t = min t.count most_functions

-- their places
abbrev pub held_of : Functions → List Place
held_of t = over (λ f. only (place_at t.starts t.tails t.parents f)) 0 (held_count t)

-- of a function that is nested in another, by its number and place: its number, and its count of upvalues
abbrev pub number_in : ℕ → Place → ℕ
number_in k p = k

abbrev pub upvalues_in : List ℕ → ℕ → Place → ℕ
upvalues_in s k p = byte_at s (bytes_of s p.start)

-- ------------------------------------------------------------ a function's lists

-- the places of the constants from i on, n of them
unfoldable pub places_from : List ℕ → ℕ → ℕ → List ℕ
places_from s i zero = []
places_from s i (suc n) = i ∷ places_from s (offset (constant s i)) n

-- the places of the constants of the function that starts at `start`, and of function f
abbrev pub constant_places_of : List ℕ → ℕ → List ℕ
constant_places_of s start = places_from s (within s (constants_of s start + 4)) (int_at s (constants_of s start))

abbrev pub constant_places : List ℕ → List Place → ℕ → List ℕ
constant_places s ps f = constant_places_of s (get_or ps f nowhere).start

-- the kind of the constant at i
abbrev pub kind_at : List ℕ → ℕ → ℕ
kind_at s i = kind_of (value_at s i)

-- ------------------------------------------------------------ word lines

-- the line of word i among the bytes of word lines, 4 of them each
abbrev pub line_in : List ℕ → ℕ → ℕ
line_in ls i = int_at ls (4 * i)

-- ls are the bytes of p's word lines
abbrev pub HasLines : Proto → List ℕ → Type 0
HasLines p ls = (i : ℕ) → line_at p i ≡ line_in ls i

-- the bytes of the word lines of the function whose rest stands at `tail`, behind their count
abbrev pub lines_of : List ℕ → ℕ → List ℕ
lines_of s tail = take (4 * int_at s tail) (drop (tail + 4) s)

-- the bytes of s from one place to before another
abbrev pub part : List ℕ → ℕ → ℕ → List ℕ
part s from past = take (past - from) (drop from s)

-- ------------------------------------------------------------ buffers

-- a buffer held `before` and then `after`: xs, as far as there is room, n of them; and behind them what stood there. So n is a
-- count of elements at the front of the buffer, which is stated for whoever takes that part of it.
pub record Filled (n room : ℕ) (xs before after : List ℕ) : Type 0 where
  pub count : n ≡ min (length xs) room
  pub content : after ≡ take n xs ++ drop n before
  pub inside : n ≤ length after
  pub front : n ≡ length (take n after)

-- the head of a function
abbrev pub head_of : Proto → Head
head_of p = record {
  number = p.number;
  parameters = p.parameters;
  upvalues = p.upvalues;
  flags = p.flags;
  stack = p.stack;
  lines = length p.lines;
  names = p.names;
}

-- Function f of the chunk s, among those at ps, is loaded: its head, the places of its constants by the first and their count,
-- the part of s that its word lines are, and in the buffers its words, the kinds of its constants, the numbers of the functions
-- nested in it and their counts of upvalues. Each word w is taken for back w. Each buffer as it was and as it is.
pub record Loads (back : ℕ → ℕ) (s : List ℕ) (ps : List Place) (f : ℕ) (r : Loaded) (ws ws' ks ks' ns ns' us us' : List ℕ) : Type 0 where
  pub head : r.head ≡ head_of (proto_at s ps f)
  pub places : places_from s r.first r.constants ≡ constant_places s ps f
  pub from : r.lines ≤ r.locals
  pub inside : r.locals ≤ length s
  pub lines : HasLines (proto_at s ps f) (part s r.lines r.locals)
  pub words : Filled r.words (length ws) (map back (proto_at s ps f).words) ws ws'
  pub kinds : Filled r.kinds (length ks) (proto_at s ps f).kinds ks ks'
  pub nested : Filled r.nested (min (length ns) (length us)) (proto_at s ps f).nested ns ns'
  pub nups : Filled r.nested (min (length ns) (length us)) (proto_at s ps f).nups us us'

-- ------------------------------------------------------------ a chunk that is not refused

-- a function at p was read, each of its fields: up to its nested functions, and behind them; and each of its constants
pub record WasRead (s : List ℕ) (p : Place) : Type 0 where
  pub head : head s p.start ≡ here (words_of s p.start)
  pub code : code s (words_of s p.start) ≡ here (constants_of s p.start)
  pub nested : ℕ
  pub constants : constants s (constants_of s p.start) ≡ here nested
  pub constant : (i : ℕ) → i < length (constant_places_of s p.start) → (j : ℕ) × (constant s (get_or (constant_places_of s p.start) i 0) ≡ here j)
  pub end : ℕ
  pub tail : (lines s p.tail then locals s then names s) ≡ here end

-- a function within the limits: 'Words above 8,192; another count or string size above 65,536' .. 'flags above 7' (4), and as
-- many functions as a chunk can have beside it (5)
pub record InLimits (p : Proto) : Type 0 where
  pub flags : p.flags ≤ most_flags
  pub words : length p.words ≤ most_words
  pub kinds : length p.kinds ≤ most
  pub nested : length p.nested < most_functions
  pub nups : length p.nups < most_functions
  pub lines : length p.lines ≤ most
  pub names : p.names ≤ most

-- a function takes at least four bytes of its chunk for each word, and one for each constant
pub record Takes (s : List ℕ) (p : Proto) : Type 0 where
  pub words : 4 * length p.words ≤ length s
  pub kinds : length p.kinds ≤ length s

-- what a chunk that is not refused is: short enough, of few functions, each read and within the limits
pub record WholeChunk (s : List ℕ) : Type 0 where
  pub bytes : length s ≤ most_bytes
  pub functions : length (walk s).places ≤ most_functions
  pub read : (f : ℕ) → f < length (walk s).places → WasRead s (get_or (walk s).places f nowhere)
  pub limited : (f : ℕ) → f < length (walk s).places → InLimits (proto_at s (walk s).places f)
  pub taken : (f : ℕ) → f < length (walk s).places → Takes s (proto_at s (walk s).places f)

-- ------------------------------------------------------------ a function that is held whole

-- a function of at most so many words, as most are, gets less room
abbrev pub few_words : ℕ
few_words = 256

-- the buffers have room for the words of p, and for the functions that can be nested in it; whoever needs the kinds of its
-- constants lends room for them beside these
pub record Roomy (p : Proto) (ws ns us : List ℕ) : Type 0 where
  pub words : length p.words ≤ length ws
  pub nested : most_functions ≤ length ns
  pub nups : most_functions ≤ length us

-- the buffers hold all of function f, each word w taken for back w, as many of each list as r says, and its kinds where there was room
-- for them; its word lines are that part of s; from the place of its first constant on, each was read, and its value is the function's
pub record Holds (back : ℕ → ℕ) (s : List ℕ) (ps : List Place) (f : ℕ) (r : Loaded) (ws ks ns us : List ℕ) : Type 0 where
  pub stands : Stands (reworded back (proto_at s ps f)) r.head (take r.words ws) (proto_at s ps f).kinds (take r.nested ns) (take r.nested us)
  pub kinds : length (proto_at s ps f).kinds ≤ length ks → (proto_at s ps f).kinds ≡ take r.kinds ks
  pub words : length (proto_at s ps f).words ≡ r.words
  pub nested : length (proto_at s ps f).nested ≡ r.nested
  pub limits : InLimits (proto_at s ps f)
  pub lines : HasLines (reworded back (proto_at s ps f)) (part s r.lines r.locals)
  pub places : places_from s r.first r.constants ≡ constant_places s ps f
  pub constant : (i : ℕ) → i < length (constant_places s ps f) → (j : ℕ) × (constant s (get_or (constant_places s ps f) i 0) ≡ here j)
  pub value : (i : ℕ) → i < length (constant_places s ps f) → value_at s (get_or (constant_places s ps f) i 0) ≡ get_or (constants_at s ps f) i nil

-- a chunk that is not refused is whole
abbrev pub Unrefused : Type 0
Unrefused = (s : List ℕ) (j : ℕ) → (walk s).read ≡ here j → WholeChunk s

-- where a chunk was walked and is not refused, each of its functions that is loaded into buffers with room is held whole
abbrev pub HoldsEach : Type 0
HoldsEach =
    (back : ℕ → ℕ) (s : List ℕ) (end : Result ℕ ChunkFault) (t : Functions) (at f : ℕ) (r : Loaded) (ws ws' ks ks' ns ns' us us' : List ℕ)
    → walked (read_of end) (places_of t) ≡ walk s → end ≡ Ok at → f < t.count
    → Loads back s (held_of t) f r ws ws' ks ks' ns ns' us us' → Roomy (proto_at s (walk s).places f) ws ns us
    → Holds back s (walk s).places f r ws' ks' ns' us'
