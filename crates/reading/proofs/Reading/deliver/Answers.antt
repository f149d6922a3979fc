-- `Reading::deliver`: a delivery, case by case. Assumes nothing.
use mathlib.Core.Path.{sym, ◌∙◌}
use native.Mathlib.Omega.{arith}
use Rattle.std.proofs.lemmas.Result.{err_from_is_err_and}
use Rattle.reading.proofs.Delivering.{not_opened, input_refused, no_function, next_written, next_few, short_by_count, written_by_count, delivers}
use Rattle.reading.proofs.Reading.deliver.Goals as goal

pub returns-then-not-self-clause-out_after : goal.returns-then-not-self-clause-out_after
returns-then-not-self-clause-out_after c = not_opened _ _ _ c.if-not-self.true

pub returns-in_err-count-clause-out_after : goal.returns-in_err-count-clause-out_after
returns-in_err-count-clause-out_after c =
    let p = err_from_is_err_and c.from_residual.result c.from_residual.ensures.1 in
    rw (p.1, p.2) (input_refused _ _ _ _ c.if-not-self.false c.in_err-count.ensures.answer)

pub returns-then-count-self-clause-out_after : goal.returns-then-count-self-clause-out_after
returns-then-count-self-clause-out_after c =
    no_function _ _ _ _ c.if-not-self.false (sym c.in_ok-count.ensures.answer) c.if-count-self.true

pub returns-then-out-length-clause-out_after : goal.returns-then-out-length-clause-out_after
returns-then-out-length-clause-out_after c =
    let w = c.write_whole-length.ensures in
    let e = next_written _ _ _ _ c.if-not-self.false (sym c.in_ok-count.ensures.answer) c.if-count-self.false in
    short_by_count _ _ _ w.value _ _ w.out_after (omega arith) ∙ e

pub overflow_add-self : goal.overflow_add-self
overflow_add-self c = omega (
  arith,
  next_few _ _ _ _ (record {
    count = c.in_ok-count.count;
    judged = sym c.in_ok-count.ensures.answer;
    places = c.in_ok-count.ensures.places;
    below = c.if-count-self.false;
  }),
)

pub returns : goal.returns
returns c =
    let w = c.write_whole-length.ensures in
    let opened = c.if-not-self.false in
    let e = next_written _ _ _ _ opened (sym c.in_ok-count.ensures.answer) c.if-count-self.false in
    let d = delivers _ _ _ _ (written_by_count _ _ _ w.value _ _ w.out_after opened (omega arith) (omega arith) ∙ e) in
    record { out_after = d.0; followed = d.1 }
