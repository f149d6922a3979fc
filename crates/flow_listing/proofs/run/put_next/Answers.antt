-- `run::put_next`: the listing, or 33, by its length. Assumes nothing.
use Prim.Native.Nat.{◌≤◌, ◌<◌}
use mathlib.Core.Path.{refl, sym}
use native.Mathlib.Omega.{arith}
use lib.ListN.{length}
use borrow.Author.Tests.{lt-ltb, le-ltb}
use Rattle.lines.specs.Out.{largest_usize}
use Rattle.judging.specs.Judge.{listing_of}
use Rattle.reading.specs.Program.{buffer, by_lua}
use Rattle.flow_listing.proofs.Pieces.{listed, put_count, put_whole}
use Rattle.std.proofs.Common.{rules}
use Rattle.flow_listing.proofs.run.put_next.Goals as goal

pub returns-then-length-gt-PROGRAM_BUFFER : goal.returns-then-length-gt-PROGRAM_BUFFER
returns-then-length-gt-PROGRAM_BUFFER c =
    let bytes = listing_of by_lua c.args.chunk.bytes.now c.args.f in
    let few : length c.args.out.now ≤ largest_usize = search rules in
    let runs = c.requires.run_numbers_in_bounds in
    let e = listed _ _ _ c.requires.listable _ c.lua.ensures c.put_function-length.ensures runs in
    let count = put_count c.args.out.now _ bytes _ e few in
    let long : buffer < length bytes = omega (arith, count, c.if-length-gt-PROGRAM_BUFFER.true) in
    let w = c.put_line.ensures in
    let is = lt-ltb buffer (length bytes) long in
    rw is (record { out_after = w.out_after; prefix_len = w.prefix_len; last_value = refl })

pub returns : goal.returns
returns c =
    let bytes = listing_of by_lua c.args.chunk.bytes.now c.args.f in
    let few : length c.args.out.now ≤ largest_usize = search rules in
    let runs = c.requires.run_numbers_in_bounds in
    let e = listed _ _ _ c.requires.listable _ c.lua.ensures c.put_function-length.ensures runs in
    let count = put_count c.args.out.now _ bytes _ e few in
    let short : length bytes ≤ buffer = omega (arith, count, c.if-length-gt-PROGRAM_BUFFER.false) in
    let w = put_whole c.args.out.now _ bytes _ e few (omega (arith, c.requires.buffer_in_bounds)) in
    let fits = le-ltb buffer (length bytes) short in
    record { out_after = rw fits w.0; prefix_len = w.1; last_value = sym fits }
