-- `put_word` meets its contract. Assumes nothing.
use mathlib.Core.List.{[], flat_map}
use Rattle.lines.proofs.Puts.{puts_nothing, puts_prints, prints_nothing}
use Rattle.lua51_function.proofs.Standing.{standing, stands}
use Rattle.lua51_lifter.specs.Blocks.{stated, naming}
use Rattle.lua51_lister.proofs.Pending.{statements_capture, statements_own}
use Rattle.lua51_lister.proofs.put_word.Goals as goal

pub returns-then-pending-gt0 : goal.returns-then-pending-gt0
unfolding stated naming flat_map
returns-then-pending-gt0 c = record {
  result_after = λ p ks st e. rw (statements_capture p c.args.i (rw e at c.if-pending-gt0.true)) (puts_nothing c.args.out.now);
  anyway = prints_nothing c.args.out.now;
}

pub returns : goal.returns
unfolding stated
returns c =
    let a = c.args in
    let f = a.function.now in
    record {
      result_after = λ p ks st e.
          rw (statements_own p a.i (rw e at c.if-pending-gt0.false)) (c.put_statements.ensures p ks st);
      anyway = puts_prints
          (c.put_statements.ensures (standing f.head f.words.now [] f.nested.now f.nups.now) []
          (stands f.head f.words.now [] f.nested.now f.nups.now));
    }
