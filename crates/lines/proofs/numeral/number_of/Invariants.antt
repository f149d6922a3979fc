-- `number_of` meets its contract. The loop's invariant: all digits say what those that are left say behind x. Assumes nothing.
use Prim.Native.Nat.{◌^◌, ◌<◌}
use mathlib.Core.Path.{◌≡◌}
use lib.ListN.{drop}
use Rattle.lines.specs.Numeral.{digits_say}
use Rattle.lines.proofs.numeral.number_of.Given as goal

abbrev pub invariant-loop-b : goal.invariant-loop-b
invariant-loop-b l = (l.x < 10 ^ l.b-index) × (digits_say 0 l.digits ≡ digits_say l.x (drop l.b-index l.digits))
