-- A function that is loaded from a chunk is what its printers go by: it is held, and its F line, its constants and its
-- blocks are its listing. Assumes nothing.
use Prim.Native.Nat.{ℕ, ◌≤◌, ◌<◌, min}
use native.Mathlib.Omega.{arith}
use mathlib.Core.Bool.{Bool, true}
use mathlib.Core.List.{List, [], flat_map}
use mathlib.Core.Path.{◌≡◌, refl, sym, ap, subst, ◌∙◌}
use lib.ListN.{length}
use borrow.Author.Tests.{lt-leb, le-leb}
use Rattle.lines.specs.Out.{Out, output, out_of, largest_usize, Puts}
use Rattle.lines.specs.declared.Output.{Output}
use Rattle.lines.proofs.Puts.{puts_then, puts_equal, puts_from, puts_empty, puts_fit}
use Rattle.lua51_instruction.specs.Proto.{Proto, reworded}
use Rattle.house_table.specs.House.{opcode_count, inverse_of, word_back, word_by}
use Rattle.house_table.proofs.Inverse.{by_inverse}
use Rattle.lua51_value.specs.Value.{Value}
use Rattle.lua51_deserializer.specs.Chunk.{here, walked, Walk, walk, proto_at, most_words, most_functions}
use Rattle.lua51_deserializer.specs.Walked.{places_of}
use Rattle.lua51_deserializer.specs.declared.chunk.Functions.{Functions}
use Rattle.std.proofs.Common.{Ok}
use Rattle.lua51_function.specs.Function.{Stands, Shows, held_of, Loads, few_words, part, Roomy, Holds}
use Rattle.lua51_function.specs.declared.function.Head.{Head}
use Rattle.lua51_function.specs.declared.function.Loaded.{Loaded}
use Rattle.lua51_function.specs.declared.function.View.{View}
use Rattle.lua51_function.proofs.WholeFunction.{held_all, holds_each, reworded_size}
use Rattle.lua51_function.proofs.WholeChunk.{whole_chunk}
use Rattle.lua51_deserializer.proofs.Places.{places_length}
use Rattle.lua51_lifter.specs.Blocks.{graph}
use Rattle.lua51_lifter.specs.Check.{check, fine}
use Rattle.lua51_lifter.specs.Listing.{item_line, constant_items, all_block_items, function_items, named_numbers, source_lines, items, constant_lines, block_lines}
use Rattle.lua51_lifter.specs.Listing.{listing}
use Rattle.lua51_statements.proofs.Pieces.{pieces_append}
use Rattle.lua51_constants.specs.Constants.{function_line}
use Rattle.lua51_constants.proofs.ConstantLines.{function_line_lem}
use Rattle.block_lines.specs.Lines.{Held}
use Rattle.listing.specs.Printed.{printed, Lists}

-- ------------------------------------------------------------ the function

-- it is one of a chunk that was read whole, and buffers with room hold all of it
pub holds_function : {back : ℕ → ℕ} {s : List ℕ} (functions : Functions) {f : ℕ} {r : Loaded} {ws ws' ks ks' ns ns' us us' : List ℕ}
    (end : ℕ) → walked (here end) (places_of functions) ≡ walk s → f < functions.count
    → Loads back s (held_of functions) f r ws ws' ks ks' ns ns' us us' → Roomy (proto_at s (walk s).places f) ws ns us
    → Holds back s (walk s).places f r ws' ks' ns' us'
holds_function {back} {s} functions {f} {r} {ws} {ws'} {ks} {ks'} {ns} {ns'} {us} {us'} end e below loads room =
    holds_each back s (Ok end) functions end f r ws ws' ks ks' ns ns' us us' e refl below loads room

-- a function of a chunk that was read whole has at most the most words
pub words_most : (s : List ℕ) (functions : Functions) (f end : ℕ) → walked (here end) (places_of functions) ≡ walk s → f < functions.count
    → length (proto_at s (held_of functions) f).words ≤ most_words
words_most s functions f end e below =
    let read : (walk s).read ≡ here end = sym (ap (λ (v : Walk). v.read) e) in
    let inside : f < length (walk s).places = omega (arith, places_length functions, ap (λ (v : Walk). length v.places) e) in
    rw (held_all s (Ok end) functions end e refl) ((whole_chunk s end read).limited f inside).words

-- buffers for its words, for few words, and for the most, have room for it
module _ (s : List ℕ) (functions : Functions) (f end : ℕ) (e : walked (here end) (places_of functions) ≡ walk s) (below : f < functions.count) (ws ns us : List ℕ) where
  pub room : length (proto_at s (held_of functions) f).words ≤ length ws → most_functions ≤ length ns → most_functions ≤ length us
      → Roomy (proto_at s (walk s).places f) ws ns us
  room fits n u =
      let words : length (proto_at s (walk s).places f).words ≤ length ws = rw (held_all s (Ok end) functions end e refl) at fits in
      record { words = words; nested = n; nups = u }

  pub room_few : length (proto_at s (held_of functions) f).words ≤ few_words → few_words ≤ length ws → most_functions ≤ length ns → most_functions ≤ length us
      → Roomy (proto_at s (walk s).places f) ws ns us
  room_few few w n u = room (omega arith) n u

  pub room_most : most_words ≤ length ws → most_functions ≤ length ns → most_functions ≤ length us → Roomy (proto_at s (walk s).places f) ws ns us
  room_most w n u = room (omega (arith, words_most s functions f end e below)) n u

-- where nothing in it is refused, it is held
pub held : {back : ℕ → ℕ} {s : List ℕ} {f : ℕ} {r : Loaded} {ws ks fs us : List ℕ} → Holds back s (walk s).places f r ws ks fs us
    → check (reworded back (proto_at s (walk s).places f)) ≡ fine
    → (v : View) → Shows (reworded back (proto_at s (walk s).places f)) (proto_at s (walk s).places f).kinds v
    → Held (reworded back (proto_at s (walk s).places f)) v (part s r.lines r.locals)
held {back} {s} {f} h ok v sees =
    let p = proto_at s (walk s).places f in
    record { fine = ok; few = omega (arith, reworded_size back p, h.limits.words); kinds = p.kinds; stands = sees; lines = h.lines }

-- by the inverse of a table it is printed as by the table
pub lists_by : (table inverse : List ℕ) → inverse ≡ inverse_of table → length table ≡ opcode_count
    → {s : List ℕ} {functions : Functions} {f : ℕ} {whole : Bool} {run out out' : List ℕ} {r : ℕ}
    → Lists (word_by inverse) s functions f whole run out out' r → Lists (word_back table) s functions f whole run out out' r
lists_by table inverse e long {s} {functions} {f} {whole} {run} {out} {out'} {r} l =
    subst (λ (back : ℕ → ℕ). Lists back s functions f whole run out out' r) (ap word_by e ∙ by_inverse table long) l

-- ------------------------------------------------------------ its listing

-- printed: its F line, its constants, its blocks
pub listed : {p : Proto} {h : Head} {ws ks ns us : List ℕ} → Stands p h ws ks ns us → (vs : List Value) {o o₁ o₂ o₃ : Output}
    → Puts o o₁ (function_line h) → Puts o₁ o₂ (constant_lines 0 vs) → Puts o₂ o₃ (block_lines p 0 (graph p))
    → Puts o o₃ (listing p vs)
unfolding listing items function_items flat_map
listed {p} st vs head constants blocks =
    let parts = pieces_append item_line (constant_items 0 vs) (all_block_items named_numbers (source_lines p) 0 (graph p)) in
    puts_equal (sym (rw (parts, function_line_lem st) refl)) (puts_then head (puts_then constants blocks))

-- ------------------------------------------------------------ the whole or nothing

-- bytes that were printed into an empty output, which counted them
module _ (bytes out : List ℕ) {e e' : Output} (empty : out_of e ≡ output [] 0) (counted : Puts e e' bytes) where
  count : e'.at ≡ min (length bytes) largest_usize
  count = ap (λ (o : Out). o.at) (puts_from empty counted ∙ puts_empty 0 bytes (omega arith)) ∙ omega arith

  -- an output that is too short stays
  pub whole_short : length out < e'.at → output out e'.at ≡ printed true out bytes
  whole_short short =
      let h : length out < length bytes = omega (arith, count) in
      rw (lt-leb (length bytes) (length out) h, count)

  -- in another they were printed
  pub whole_fits : {o o' : Output} → e'.at ≤ length out → length out < largest_usize → Puts o o' bytes → out_of o ≡ output out 0
      → output o'.bytes.now e'.at ≡ printed true out bytes
  whole_fits {o' = o'} roomy few p start =
      let fits : length bytes ≤ length out = omega (arith, count) in
      let stored = puts_from start p ∙ puts_fit out bytes fits (omega arith) in
      let same : e'.at ≡ o'.at = omega (arith, count, ap (λ (o : Out). o.at) stored) in
      rw (le-leb (length bytes) (length out) fits, same) (puts_from start p)
