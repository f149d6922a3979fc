-- `put_with`: the room holds the function whole, and so what is printed is the listing of the definition's function. Assumes nothing.
use Prim.Native.Nat.{◌+◌, ◌≤◌}
use mathlib.Core.Path.{◌∙◌}
use lib.ListN.{length, replicate, length-replicate}
use native.Mathlib.Omega.{arith}
use lib.Seq.{length-take-le}
use Rattle.lua51_deserializer.specs.Chunk.{proto_at}
use Rattle.cfg_notes.specs.Notes.{no_note}
use Rattle.lua51_function.specs.Function.{held_of}
use Rattle.lua51_function.proofs.WholeFunction.{reworded_size}
use Rattle.lua51_constants.proofs.ConstantLines.{held_constants}
use Rattle.listing.proofs.Loading.{holds_function, room, held}
use Rattle.std.proofs.Common.{rules}
use Rattle.listing.proofs.function.put_with.Goals as goal

pub returns : goal.returns
returns g c =
    let chunk = c.args.chunk in
    let loaded = c.function_at-loaded in
    record {
      listed = λ end walked below ok runs.
          let few : length (proto_at chunk.bytes.now (held_of chunk.functions.now) c.args.f).words ≤ length (replicate g.row.WORDS 0) =
          rw length-replicate (c.requires.words end walked below) in
          let h = holds_function chunk.functions.now end walked below loaded.ensures.loads
          (room _ _ _ _ walked below _ _ _ few (search rules) (search rules)) in
          -- the notes of the words that were loaded have room
          let noted : loaded.result.words + 1 ≤ length (replicate g.row.MARKS no_note) =
          rw length-replicate (omega (arith, loaded.ensures.loads.words.count, c.requires.marks)) in
          c.put_listing.ensures.result_after _ _ (held h ok _ h.stands) runs (length-take-le _ _ noted ∙ rw (reworded_size _ _, h.words))
          (held_constants h);
      anyway = c.put_listing.ensures.anyway;
    }
