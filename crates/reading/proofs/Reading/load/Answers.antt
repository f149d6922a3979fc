-- `Reading::load`: a table that is not refused is the reading's. Assumes nothing.
use Rattle.std.proofs.lemmas.Result.{err_from_is_err_and}
use Rattle.reading.proofs.Loading.{load_refused, load_fine}
use Rattle.reading.proofs.Reading.load.Goals as goal

pub returns-in_err-table : goal.returns-in_err-table
returns-in_err-table c =
    let p = err_from_is_err_and c.from_residual.result c.from_residual.ensures.1 in
    rw (p.1, p.2) (λ out. load_refused _ _ out _ c.in_err-table.ensures.verdict)

pub returns : goal.returns
returns c =
    let t = c.in_ok-table.ensures in
    λ out. load_fine _ _ out _ t.verdict t.numbers
