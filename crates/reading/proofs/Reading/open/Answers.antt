-- `Reading::open`: the reading is opened where the chunk is accepted, and keeps its table. Assumes nothing.
use Rattle.std.proofs.lemmas.Result.{err_from_is_err_and}
use Rattle.reading.proofs.Opening.{refused_closed, given_opened}
use Rattle.reading.proofs.Reading.open.Goals as goal

pub returns-in_err-count : goal.returns-in_err-count
returns-in_err-count c =
    let p = err_from_is_err_and c.from_residual.result c.from_residual.ensures.1 in
    rw (p.1, p.2) (λ out. refused_closed _ _ out _ c.in_err-count.ensures)

pub returns : goal.returns
returns c = λ out. given_opened _ _ out _ c.in_ok-count.ensures
