-- `chunk::Functions::new` meets its contract. Assumes nothing.
use mathlib.Core.Path.{refl}
use Rattle.basics.specs.Range.{over}
use Rattle.lua51_deserializer.proofs.chunk.Functions.new.Goals as goal

pub returns : goal.returns
unfolding over
returns c = refl
