-- `operands::values_fit`: the last register of the run. Assumes nothing.
use native.Mathlib.Omega.{arith}
use Rattle.lua51_operands.proofs.Fitting.{run_fits}
use Rattle.lua51_operands.proofs.operands.values_fit.Goals as goal

pub returns : goal.returns
returns c = cc (run_fits 2 c.args.a c.args.n c.args.stack (omega arith))
