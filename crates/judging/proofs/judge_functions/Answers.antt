-- `judge_functions`: each function of the chunk fits the room. Assumes nothing.
use native.Mathlib.Omega.{arith}
use Rattle.judging.proofs.Judging.{fits_short, fits_long}
use Rattle.judging.proofs.judge_functions.Goals as goal

pub judge_with-requires-clause-by_index : goal.judge_with-requires-clause-by_index
judge_with-requires-clause-by_index c = λ f below.
    fits_short c.requires f below _ _ _ (omega arith) (omega arith) (omega arith)

pub judge_with-requires-2-clause-by_index : goal.judge_with-requires-2-clause-by_index
judge_with-requires-2-clause-by_index c = λ f below.
    fits_long c.requires f below _ _ _ (omega arith) (omega arith) (omega arith)
