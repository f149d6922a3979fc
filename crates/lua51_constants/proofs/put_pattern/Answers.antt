-- `put_pattern`: its kind, then the pieces that `pieces_of` gives. Assumes nothing.
use Rattle.lua51_value.specs.Value.{kind_of}
use Rattle.lua51_lifter.specs.Listing.{value}
use Rattle.lua51_constants.specs.Constants.{numbers_of}
use Rattle.lua51_constants.proofs.put_pattern.Goals as goal

pub returns : goal.returns
unfolding numbers_of kind_of value
returns c =
    rw (c.from.ensures, c.from-2.ensures, c.from-3.ensures, c.from-4.ensures, c.from-5.ensures, c.pieces_of-pieces.ensures)
    at c.put_numbers.ensures
