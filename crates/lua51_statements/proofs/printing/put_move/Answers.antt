-- `put_move` meets its contract. Assumes nothing.
use Rattle.ast.specs.Statement.{run, count, exprs, expr}
use Rattle.ast.proofs.Written.{held}
use Rattle.lua51_lifter.specs.Blocks.{naming}
use Rattle.lua51_statements.specs.Lines.{line_within}
use Rattle.lua51_statements.proofs.Pieces.{pieces_one}
use Rattle.lua51_statements.proofs.printing.put_move.Goals as goal

pub returns : goal.returns
unfolding naming line_within run count exprs expr
returns c =
    rw (pieces_one (line_within _), ← held c.new-written.ensures.empty c.set_register.ensures, ← c.as_slice.ensures) c.put_statement.ensures
