-- `put_whole`: the listing is counted, and printed where the output is long enough. That it is printed from the output's first byte on is
-- searched for: with `stored.at = 0;` behind `Output::new(out);` the function is proved too. Assumes nothing.
use Prim.Native.Nat.{◌<◌}
use lib.ListN.{length}
use Rattle.lines.specs.Out.{largest_usize}
use native.Mathlib.Omega.{arith}
use Rattle.listing.proofs.Loading.{whole_short, whole_fits}
use Rattle.std.proofs.Common.{rules}
use Rattle.listing.proofs.function.put_whole.Goals as goal

pub returns-then-out-length-clause-result_after : goal.returns-then-out-length-clause-result_after
returns-then-out-length-clause-result_after c =
    λ p vs draws roomy read.
    whole_short _ c.args.out.now c.new-counted.ensures.at_start (c.put_loaded.ensures.result_after p vs draws roomy read) c.if-out-length.true

pub returns-clause-result_after : goal.returns-clause-result_after
returns-clause-result_after c =
    let out = c.args.out.now in
    let few : length out < largest_usize = omega arith in
    λ p vs draws roomy read.
    let stored = c.put_loaded-2.ensures.result_after p vs draws (search rules) read in
    let whole =
    whole_fits _ out c.new-counted.ensures.at_start (c.put_loaded.ensures.result_after p vs draws roomy read) c.if-out-length.false few
    stored (search rules) in
    search (rules, whole, stored.same)
