-- `value::pattern_of`: every NaN has the bits of the standard one. Assumes nothing.
use mathlib.Core.Bool.{true}
use mathlib.Core.Path.{◌≡◌, refl, ◌∙◌, sym, ap}
use lib.Ieee.{Float, nan, inf, fin, is_nan, to_bits, binary64}
use Rattle.lua51_value.specs.Constant.{pattern_of}
use Rattle.lua51_value.proofs.value.pattern_of.Goals as goal

standard : (x : Float) → is_nan x ≡ true → 0x7FF8000000000000 ≡ to_bits binary64 x
unfolding is_nan to_bits
standard nan e = refl
standard (inf s) e = cc
standard (fin s m z) e = cc

pub returns-in-Number : goal.returns-in-Number
unfolding pattern_of
returns-in-Number c = standard _ (sym c.is_nan.ensures.value ∙ c.if-is_nan.true) ∙ ap pattern_of (sym c.in-Number.is)
