-- `bits::field`: the facts on a field's width are those of proofs/Widths. Assumes nothing.
use mathlib.Core.Path.{refl}
use lib.Pow.{pow_pos}
use Rattle.lua51_instruction.proofs.Widths.{below, size}
use Rattle.lua51_instruction.proofs.bits.field.Goals as goal

pub nonzero_rem-result : goal.nonzero_rem-result
nonzero_rem-result c = rw (size c.args.width c.requires.1) (pow_pos c.args.width)

pub returns : goal.returns
returns c = rw (size c.args.width c.requires.1) (refl, below c.args.from c.args.width c.args.w)
