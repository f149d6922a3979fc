-- `put_function_line`: the head's numbers as one line. Assumes nothing.
use Rattle.lua51_constants.specs.Constants.{function_line}
use Rattle.lua51_constants.proofs.put_function_line.Goals as goal

pub returns : goal.returns
unfolding function_line
returns c = rw (← c.from.ensures, ← c.from-2.ensures, ← c.from-3.ensures) c.put_line.ensures
