-- `set_table` meets its contract. Assumes nothing.
use mathlib.Core.List.{append-nil}
use Rattle.ast.specs.Statement.{run, count, exprs, expr}
use Rattle.ast.proofs.Written.{then}
use Rattle.lua51_lifter.specs.Lift.{rk}
use Rattle.lua51_assignments.proofs.set_table.Goals as goal

pub returns : goal.returns
unfolding run count exprs expr
returns c =
    rw (append-nil (expr (rk c.args.w.b)), append-nil (expr (rk c.args.w.c)))
    (then (rw c.from.ensures at c.push_all.ensures) (then c.push_operand.ensures c.push_operand-2.ensures))
