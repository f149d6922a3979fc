-- What an output holds once a listing is printed into it from its start.
use Rattle.std.specs.Prelude.{ℕ, ◌≤◌, ◌<◌, min, Bool, true, false, cond, List, ◌≡◌, leb, length}
use Rattle.lines.specs.Out.{Out, output, largest_usize, puts, Prints}
use Rattle.lua51_instruction.specs.Proto.{reworded}
use Rattle.lua51_deserializer.specs.Chunk.{here, walked, walk, proto_at, constants_at}
use Rattle.lua51_deserializer.specs.Walked.{places_of}
use Rattle.lua51_deserializer.specs.declared.chunk.Functions.{Functions}
use Rattle.lua51_lifter.specs.Check.{check, fine}
use Rattle.lua51_lifter.specs.Listing.{listing}
use Rattle.block_lines.specs.Lines.{run_numbers}

-- an output into which bytes are printed; where only the whole of them is wanted, one that is shorter than they are stays as it
-- was, and they are counted
abbrev pub printed : Bool → List ℕ → List ℕ → Out
printed false out bytes = puts (output out 0) bytes
printed true out bytes = cond (leb (length bytes) (length out)) (puts (output out 0) bytes) (output out (min (length bytes) largest_usize))

-- what holds of an output, as it was and as it is, and of the length that was given, whatever was printed: where only the whole
-- was wanted, an output that is shorter than that length is as it was
abbrev pub Leaves : Bool → List ℕ → List ℕ → ℕ → Type 0
Leaves false out out' r = Prints (output out 0) (output out' r)
Leaves true out out' r = length out < r → out' ≡ out

-- out' and the length r are what becomes of the output `out` where function f of the chunk s, among these functions, is printed, each word
-- w taken for back w: its listing, if the chunk was read whole, nothing in f is refused, and the buffer `run` holds every run
pub record Lists (back : ℕ → ℕ) (s : List ℕ) (functions : Functions) (f : ℕ) (whole : Bool) (run out out' : List ℕ) (r : ℕ) : Type 0 where
  pub listed : (end : ℕ) → walked (here end) (places_of functions) ≡ walk s → f < functions.count
      → check (reworded back (proto_at s (walk s).places f)) ≡ fine → run_numbers ≤ length run
      → output out' r ≡ printed whole out (listing (reworded back (proto_at s (walk s).places f)) (constants_at s (walk s).places f))
  pub anyway : Leaves whole out out' r
