-- `fields::numbers` meets its contract. Assumes nothing.
use Rattle.lua51_deserializer.proofs.NumberLists.{numbers_whole, numbers_short}
use Rattle.lua51_deserializer.proofs.fields.numbers.Goals as goal

pub returns-then-left-count : goal.returns-then-left-count
returns-then-left-count c = numbers_short c.args.s.now c.args.n c.args.at _ c.numbers_left-left.ensures c.if-left-count.true

pub returns : goal.returns
returns c = numbers_whole c.args.s.now c.args.n c.args.at _ c.numbers_left-left.ensures c.if-left-count.false
