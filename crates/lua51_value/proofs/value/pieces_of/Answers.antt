-- `value::pieces_of`: each piece is what `piece` gives. Assumes nothing.
use Rattle.lua51_value.proofs.value.pieces_of.Goals as goal

pub returns : goal.returns
returns c = cc
