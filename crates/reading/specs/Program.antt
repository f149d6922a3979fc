-- What the listing program writes for its input (document 01, 'Printed lines'), as a list of pieces; and that opening and
-- delivering give the same.
use Rattle.std.specs.Prelude.{ℕ, zero, suc, ◌+◌, ◌<◌, cond, List, [], ◌∷◌, ◌≡◌, ltb, eqb, length, take}
use Rattle.house_table.specs.House.{lua, word_back, as_it_stands}
use Rattle.lua51_deserializer.specs.Chunk.{most_functions}
use Rattle.judging.specs.Judge.{Answer, given, refusal, judge, listing_of}
use Rattle.judging.specs.Refusal.{refusal_line}
use Rattle.reading.specs.Reading.{Reading, closed, opening, delivery}

-- 'Its output buffer is 65,536 bytes'
abbrev pub buffer : ℕ
buffer = 65536

-- the listings of the k functions from f on, a piece each; 'a longer listing ends the run with X for 33'. Each word w is taken for back w
unfoldable pub listings : (ℕ → ℕ) → List ℕ → ℕ → ℕ → List (List ℕ)
listings back s f zero = []
listings back s f (suc k) =
    let bytes = listing_of back s f in
    let rest = listings back s (f + 1) k in
    cond (ltb buffer (length bytes)) (refusal_line 33 f 0 ∷ []) (bytes ∷ rest)

unfoldable pub pieces_for : (ℕ → ℕ) → List ℕ → Answer → List (List ℕ)
pieces_for back s (refusal n f p) = refusal_line n f p ∷ []
pieces_for back s (given n) = listings back s 0 n

-- 'reads a chunk from standard input and prints all listings, or one line X'
unfoldable pub pieces_by : (ℕ → ℕ) → List ℕ → List (List ℕ)
pieces_by back s = pieces_for back s (judge back s)

-- 'Before any load the table is Lua's own' (document 02, 3), and the program loads none
abbrev pub by_lua : ℕ → ℕ
by_lua = word_back lua

abbrev pub pieces : List ℕ → List (List ℕ)
pieces s = pieces_by by_lua s

-- so that its pieces are document 01's, of words as they stand
abbrev pub PiecesAsBefore : Type 0
PiecesAsBefore = (s : List ℕ) → pieces s ≡ pieces_by as_it_stands s

-- ------------------------------------------------------------ the same by opening and delivering

-- the piece that a delivery gives, by its answer and the output that it leaves, and then those behind it: it 'writes the next
-- function's listing from the output's start, gives its length'; 32 ends them, as no function is left; else 'one line X'
abbrev pub piece_then : Answer → List ℕ → List (List ℕ) → List (List ℕ)
piece_then (given m) out rest = take m out ∷ rest
piece_then (refusal n f p) out rest = cond (eqb n 32) [] (refusal_line n f p ∷ [])

-- at most k deliveries of the chunk s, each from the reading and into the output that the one before it left
unfoldable pub deliveries : ℕ → Reading → List ℕ → List ℕ → List (List ℕ)
deliveries zero r s out = []
deliveries (suc k) r s out =
    let d = delivery r s out in
    let rest = deliveries k d.reading s d.output in
    piece_then d.answer d.output rest

-- what is delivered once the chunk is opened; where the opening is refused, 'one line X'
abbrev pub opened_then : Answer → List (List ℕ) → List (List ℕ)
opened_then (given n) rest = rest
opened_then (refusal n f p) rest = refusal_line n f p ∷ []

-- opening s from a reading as every reading begins, and then at most k deliveries
unfoldable pub opened_and_delivered : ℕ → List ℕ → List ℕ → List (List ℕ)
opened_and_delivered k s out =
    let o = opening closed s out in
    let rest = deliveries k o.reading s o.output in
    opened_then o.answer rest

-- Whoever opens s and has it delivered into 65,536 bytes again and again, whatever these hold at first, gets the listing
-- program's pieces. The same for every number of deliveries above 256, the most functions: by then they have ended, at 32 or
-- with the X line.
abbrev pub PiecesDelivered : Type 0
PiecesDelivered = (s out : List ℕ) (k : ℕ) → length out ≡ buffer → most_functions < k → opened_and_delivered k s out ≡ pieces s
