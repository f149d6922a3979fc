-- `run::put_line`: an X line fits the buffer. Assumes nothing.
use Prim.Native.Nat.{◌≤◌}
use mathlib.Core.Path.{ap, ◌∙◌}
use native.Mathlib.Omega.{arith}
use lib.ListN.{length}
use Rattle.lines.specs.Out.{largest_usize}
use Rattle.judging.specs.Refusal.{refusal_line}
use Rattle.flow_listing.specs.Run.{line_of}
use Rattle.flow_listing.proofs.Pieces.{put_whole, line_short}
use Rattle.std.proofs.Common.{rules}
use Rattle.flow_listing.proofs.run.put_line.Goals as goal

pub returns : goal.returns
returns c =
    let n = c.from.result in
    let few : length c.args.out.now ≤ largest_usize = search rules in
    let line = refusal_line n.number n.function n.place in
    let short = line_short n.number n.function n.place in
    let w = put_whole c.args.out.now _ line _ c.put_refusal.ensures few (omega (arith, short, c.requires)) in
    record { out_after = w.0 ∙ ap line_of c.from.ensures; prefix_len = w.1 }
