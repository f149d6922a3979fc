-- `inverse_of`. The loop's invariant: the inverse is that of the lines from the last one that is left on. Assumes nothing.
use native.Mathlib.Omega.{arith}
use mathlib.Core.Path.{◌≡◌, sym, ◌∙◌}
use lib.ListN.{length, get_or}
use lib.Seq.{take-length}
use Rattle.basics.specs.Range.{over}
use Rattle.house_table.specs.House.{opcode_count}
use Rattle.house_table.proofs.Inverse.{found_none, found_all, found_past, found_more, last_left}
use Rattle.std.proofs.Common.{rules}
use Rattle.house_table.proofs.inverse_of.Goals as goal

pub loop-i-init : goal.loop-i-init
unfolding over
loop-i-init c =
    let table = c.args.table in
    let start = c.into_iter-i-iterator.result.iter in
    let long : length table ≡ opcode_count = search rules in
    let reversed = c.into_iter-i-iterator.ensures.into_iter_gives in
    let all : start.iter.rest.now ≡ table = cc (reversed, c.rev-i-items.ensures.source, c.enumerate.ensures.source, c.iter.ensures.rest) in
    let from_0 : start.count ≡ 0 = cc (reversed, c.rev-i-items.ensures.source, c.enumerate.ensures.count) in
    (from_0, rw all (sym (take-length table)), rw (all, long) (sym (found_none table long)))

pub loop-i-preserved-then-number-lt-OPCODES : goal.loop-i-preserved-then-number-lt-OPCODES
loop-i-preserved-then-number-lt-OPCODES c =
    let l = c.loop-i in
    let table = c.args.table in
    let turn = c.in-Some.ensures.steps in
    let i = length c.next.new.self.iter.iter.rest.now in
    let at : c.in-Some.i ≡ i = omega (arith, turn.1.1, l.invariant.0) in
    let (before, number, one, few) = last_left table l.i-iterator.iter.iter.rest.now c.in-Some.number.now turn.1.0 l.invariant.1 in
    let read : c.from-number.result ≡ get_or table i 0 = c.from-number.ensures ∙ number in
    let below = rw one at l.invariant.2 in
    (turn.0 ∙ l.invariant.0, before, rw (read, at) (found_more table i (omega arith) l.inverse below (omega arith)))

pub loop-i-preserved : goal.loop-i-preserved
loop-i-preserved c =
    let l = c.loop-i in
    let table = c.args.table in
    let turn = c.in-Some.ensures.steps in
    let i = length c.next.new.self.iter.iter.rest.now in
    let (before, number, one, few) = last_left table l.i-iterator.iter.iter.rest.now c.in-Some.number.now turn.1.0 l.invariant.1 in
    let read : c.from-number.result ≡ get_or table i 0 = c.from-number.ensures ∙ number in
    let below = rw one at l.invariant.2 in
    (turn.0 ∙ l.invariant.0, before, found_past table i (omega arith) l.inverse below (omega arith))

pub returns : goal.returns
returns c =
    let l = c.loop-i in
    l.invariant.2 ∙ rw c.in-None.ensures.steps.1.0 (found_all c.args.table)
