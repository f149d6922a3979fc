-- `Answer::from`: a count or a length, or the numbers of a refusal. Assumes nothing.
use mathlib.Core.Path.{ap}
use Rattle.rigamel.specs.Numbers.{answer_numbers}
use Rattle.rigamel.proofs.numbers.AnswerFromResultUsizeRefusal.from.Goals as goal

pub returns-in-Ok : goal.returns-in-Ok
unfolding answer_numbers
returns-in-Ok c = rw c.in-Ok.is

pub returns-in-Err : goal.returns-in-Err
unfolding answer_numbers
returns-in-Err c = rw c.in-Err.is (ap answer_numbers c.from-refused.ensures)
