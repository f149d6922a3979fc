-- `write_whole`: the listing is written where the output is long enough. Assumes nothing.
use Prim.Native.Nat.{◌≤◌}
use lib.ListN.{length}
use Rattle.lines.specs.Out.{largest_usize}
use Rattle.house_table.specs.House.{word_back}
use Rattle.judging.specs.Judge.{listing_of}
use Rattle.reading.proofs.Delivering.{whole_counted, whole_left, next_listed}
use Rattle.std.proofs.Common.{rules}
use Rattle.reading.proofs.deliver.write_whole.Goals as goal

pub returns : goal.returns
returns c =
    let l = next_listed _ _ _ _ c.requires c.put_function.ensures (search rules) in
    let few : length c.args.out.now ≤ largest_usize = search rules in
    let bytes = listing_of (word_back c.args.table) c.args.chunk.bytes.now c.args.f in
    record { value = whole_counted bytes c.args.out.now _ _ l few; out_after = whole_left bytes c.args.out.now _ _ l few }
