-- `put_value`: one printer for each kind of constant. Assumes nothing.
use mathlib.Core.Path.{ap, ◌∙◌}
use Rattle.lua51_value.specs.Constant.{pattern_of, value_of}
use Rattle.lua51_value.specs.Value.{kind_of}
use Rattle.lua51_lifter.specs.Listing.{value}
use Rattle.lua51_constants.specs.Constants.{numbers_of}
use Rattle.lua51_constants.proofs.ConstantLines.{puts_nil, bit_of}
use Rattle.lua51_constants.proofs.put_value.Goals as goal

pub returns-in-Nil : goal.returns-in-Nil
unfolding value_of
returns-in-Nil c = rw c.in-Nil.is (puts_nil c.put_number.ensures)

pub returns-in-Boolean : goal.returns-in-Boolean
unfolding value_of numbers_of kind_of value
returns-in-Boolean c = rw c.in-Boolean.is (rw (c.from.ensures, bit_of c.in-Boolean.b) at c.put_numbers.ensures)

pub returns-in-Number : goal.returns-in-Number
unfolding value_of pattern_of
returns-in-Number c =
    let told = c.in-Number.is in
    rw told (rw (c.pattern_of.ensures ∙ ap pattern_of told) at c.put_pattern.ensures)

pub returns-in-NotANumber : goal.returns-in-NotANumber
unfolding value_of
returns-in-NotANumber c = rw c.in-NotANumber.is c.put_pattern-in-NotANumber.ensures

pub returns-in-String : goal.returns-in-String
unfolding value_of
returns-in-String c = rw c.in-String.is c.put_text.ensures
