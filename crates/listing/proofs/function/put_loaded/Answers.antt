-- `put_loaded`: its F line, its constants and its blocks are printed. Assumes nothing.
use Rattle.lines.proofs.Puts.{puts_prints, prints_further}
use Rattle.listing.proofs.Loading.{listed}
use Rattle.listing.proofs.function.put_loaded.Goals as goal

pub returns-clause-result_after : goal.returns-clause-result_after
returns-clause-result_after c =
    λ p vs draws roomy read.
    listed draws.held.stands vs c.put_function_line.ensures
    (c.put_constant_lines.ensures.meaning vs read)
    (c.put_blocks.ensures.result_after p draws roomy)

pub returns-clause-anyway : goal.returns-clause-anyway
returns-clause-anyway c =
    prints_further (puts_prints c.put_function_line.ensures)
    (prints_further (puts_prints c.put_constant_lines.ensures.answer) c.put_blocks.ensures.anyway)
