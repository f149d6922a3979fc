-- `value::number`: a pattern is a NaN's where it is above infinity's, the sign left out. Assumes nothing.
use Prim.Native.Nat.{ℕ, ◌<◌, ◌≤◌, ◌%◌}
use mathlib.Core.Bool.{true, false}
use mathlib.Core.Path.{◌≡◌, ◌∙◌}
use lib.Ieee.{binary64, nan_bits}
use lib.Ieee.Bits.{nan_bits_above}
use borrow.Author.Tests.{lt-ltb, le-ltb}
use Rattle.lua51_value.specs.Constant.{number_of}
use Rattle.lua51_value.proofs.value.number.Goals as goal

above : (n : ℕ) → 0x7FF0000000000000 < n % 0x8000000000000000 → nan_bits binary64 n ≡ true
above n h = nan_bits_above binary64 n ∙ lt-ltb 0x7FF0000000000000 (n % 0x8000000000000000) h

not_above : (n : ℕ) → n % 0x8000000000000000 ≤ 0x7FF0000000000000 → nan_bits binary64 n ≡ false
not_above n h = nan_bits_above binary64 n ∙ le-ltb 0x7FF0000000000000 (n % 0x8000000000000000) h

pub returns-then-pattern-gt-INFINITY : goal.returns-then-pattern-gt-INFINITY
unfolding number_of
returns-then-pattern-gt-INFINITY c = rw (above c.args.pattern c.if-pattern-gt-INFINITY.true)

pub float_from_bits-result : goal.float_from_bits-result
float_from_bits-result c = rw (not_above c.args.pattern c.if-pattern-gt-INFINITY.false) tt

pub returns : goal.returns
unfolding number_of
returns c = rw (not_above c.args.pattern c.if-pattern-gt-INFINITY.false)
