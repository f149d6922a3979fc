-- `put_byte` meets its contract: inside the output the place after it is below the largest, past its end it only counts.
-- Assumes nothing.
use Prim.Native.Nat.{◌+◌, min}
use mathlib.Core.Path.{◌≡◌, refl, ap}
use mathlib.Core.List.{[], ◌∷◌}
use native.Mathlib.Omega.{arith}
use lib.ListN.{set}
use Rattle.lines.specs.Out.{output, largest_usize, put, puts}
use Rattle.lines.proofs.Puts.{puts_skipped}
use Rattle.lines.proofs.Output.put_byte.Goals as goal

pub returns-then-at-self : goal.returns-then-at-self
unfolding put puts
returns-then-at-self c =
    let o = c.args.self.now in
    let next : o.at + 1 ≡ min (o.at + 1) largest_usize = omega arith in
    record { same = refl; printed = ap (output (set o.bytes.now o.at c.args.b)) next }

pub returns : goal.returns
returns c = puts_skipped (c.args.b ∷ []) c.skip.ensures refl c.if-at-self.false
