-- `fields::body` meets its contract. Assumes nothing.
use native.Mathlib.Omega.{arith}
use Rattle.lua51_deserializer.proofs.FieldsInTurn.{field_fits}
use Rattle.lua51_deserializer.proofs.fields.body.Goals as goal

pub overflow_add-at : goal.overflow_add-at
overflow_add-at c = omega (arith, field_fits c.args.s.now c.args.size c.args.at c.in_ok-behind.behind c.in_ok-behind.ensures)
