-- One turn prints the line of the place where the loop stands. Assumes nothing.
use Prim.Native.Nat.{◌+◌, ◌-◌, ◌≤◌, ◌<◌}
use mathlib.Core.List.{◌∷◌}
use mathlib.Core.Path.{◌≡◌, sym, ◌∙◌}
use native.Mathlib.Nat.{sub-zero}
use lib.ListN.{length, drop}
use Rattle.std.proofs.Common.{arith, rules}
use Rattle.lines.proofs.Puts.{remains_all}
use Rattle.lua51_deserializer.specs.Chunk.{offset, constant}
use Rattle.lua51_deserializer.proofs.Cursor.{read_offset}
use Rattle.lua51_function.specs.Function.{places_from}
use Rattle.lua51_function.proofs.Buffers.{drop_first, drop_next, places_count, places_turn as places-next}
use Rattle.lua51_lifter.specs.Listing.{constant_lines}
use Rattle.lua51_constants.proofs.ConstantLines.{places_turn, constants_turn, places_done, constants_done}
use Rattle.lua51_constants.proofs.put_constant_lines.Goals as goal

pub loop-i-init : goal.loop-i-init
loop-i-init c =
    let o = c.args.out.now in
    record {
      few = search rules;
      next = rw (sub-zero c.args.count);
      answer = remains_all o _;
      meaning = λ vs are. remains_all o (constant_lines 0 vs);
    }

pub loop-i-preserved : goal.loop-i-preserved
loop-i-preserved c =
    let l = c.loop-i in
    let a = c.args in
    let s = a.s.now in
    let places = places_from s a.first a.count in
    let below = c.loop-i-test.true in
    let past = c.unwrap_or-place in
    let inside : l.i < length places = omega (arith, places_count s a.first a.count) in
    let behind : past.result ≡ offset (constant s l.place) = past.ensures ∙ (read_offset c.constant.result ∙ rw c.constant.ensures) in
    let next : drop l.i places ≡ l.place ∷ places_from s past.result (a.count - (l.i + 1)) =
    l.invariant.next ∙ rw behind (places-next s l.place a.count l.i below) in
    let shown = rw (sym (drop_first places l.i next)) at c.put_constant_line.ensures in
    record {
      few = search rules;
      next = drop_next places l.i next;
      answer = places_turn s places l.i l.out inside shown l.invariant.answer;
      meaning = λ vs are. constants_turn s places l.i l.out inside shown vs are (l.invariant.meaning vs are);
    }

pub returns : goal.returns
returns c =
    let l = c.loop-i in
    let a = c.args in
    let s = a.s.now in
    let places = places_from s a.first a.count in
    let done : length places ≤ l.i = omega (arith, places_count s a.first a.count) in
    record {
      answer = places_done s places l.i l.out l.invariant.answer done;
      meaning = λ vs are. constants_done s places l.i l.out vs are (l.invariant.meaning vs are) done;
    }
