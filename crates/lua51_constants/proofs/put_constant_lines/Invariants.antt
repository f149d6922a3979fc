-- `put_constant_lines`. The loop's invariant: the places that are left go on from the next one; to print all lines from the start
-- is to print those that are left from here; and so for the values of constants that were read. Assumes nothing.
use Prim.Native.Nat.{◌-◌, ◌≤◌}
use mathlib.Core.List.{List}
use mathlib.Core.Path.{◌≡◌}
use lib.ListN.{drop}
use Rattle.lines.proofs.Puts.{Remains}
use Rattle.lua51_value.specs.Value.{Value}
use Rattle.lua51_function.specs.Function.{places_from}
use Rattle.lua51_lifter.specs.Listing.{constant_lines}
use Rattle.lua51_constants.specs.Constants.{place_lines, AreRead}
use Rattle.lua51_constants.proofs.put_constant_lines.Given as goal

abbrev pub invariant-loop-i : goal.invariant-loop-i
invariant-loop-i l =
    let places = places_from l.s l.first l.count in record {
      few : l.i ≤ l.count;
      next : drop l.i places ≡ places_from l.s l.place (l.count - l.i);
      answer : Remains l.initial.out l.out (place_lines l.s 0 places) (place_lines l.s l.i (drop l.i places));
      meaning : (vs : List Value) → AreRead l.s places vs
          → Remains l.initial.out l.out (constant_lines 0 vs) (constant_lines l.i (drop l.i vs));
    }
