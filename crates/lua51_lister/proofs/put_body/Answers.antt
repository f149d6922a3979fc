-- `put_body` meets its contract. The loop's invariant: the statements of the words before the one that is next are printed.
-- Assumes nothing.
use Prim.Native.Nat.{◌+◌, ◌-◌}
use mathlib.Core.Path.{◌≡◌}
use native.Mathlib.Omega.{arith}
use lib.ListN.{length}
use Rattle.lines.proofs.Puts.{prints_nothing, prints_further}
use Rattle.lua51_lifter.specs.Blocks.{stated, naming}
use Rattle.lua51_statements.specs.Lines.{line_within}
use Rattle.lua51_statements.proofs.Pieces.{words_start, words_turn}
use Rattle.std.proofs.Common.{rules}
use Rattle.lua51_lister.proofs.put_body.Goals as goal

pub loop-i-init : goal.loop-i-init
loop-i-init c =
    let a = c.args in
    let none : a.from - a.from ≡ 0 = omega arith in
    record {
      room = search rules;
      from_first = search rules;
      not_past = omega arith;
      printed = λ p ks st e. (rw none (words_start (line_within (length a.run.now)) (stated naming p) a.out.now a.from), e);
      anyway = prints_nothing a.out.now;
    }

pub loop-i-preserved : goal.loop-i-preserved
loop-i-preserved c =
    let l = c.loop-i in
    let a = c.args in
    let f = line_within (length a.run.now) in
    let next : l.i + 1 - a.from ≡ l.i - a.from + 1 = omega (arith, l.invariant.from_first) in
    let here : a.from + (l.i - a.from) ≡ l.i = omega (arith, l.invariant.from_first) in
    let o = c.put_word.ensures in
    record {
      room = search rules;
      from_first = omega (arith, l.invariant.from_first);
      not_past = omega (arith, c.loop-i-test.true);
      printed = λ p ks st e.
          let held = l.invariant.printed p ks st e in (
            rw next
                (words_turn f (stated naming p) a.from (l.i - a.from) held.0
                (rw (here, ← l.invariant.room) (o.result_after p ks st held.1))),
            c.pending_behind-left.ensures p ks st held.1,
          );
      anyway = prints_further l.invariant.anyway o.anyway;
    }

pub returns : goal.returns
returns c =
    let l = c.loop-i in
    let a = c.args in
    let all : l.i - a.from ≡ a.past - a.from = omega (arith, l.invariant.from_first, l.invariant.not_past, c.loop-i-test.false) in
    let end : l.i ≡ a.from + (a.past - a.from) = omega (arith, l.invariant.not_past, l.invariant.from_first, c.loop-i-test.false) in
    record {
      result_after = λ p ks st e. let held = l.invariant.printed p ks st e in (rw all at held.0, rw end at held.1);
      anyway = l.invariant.anyway;
    }
