-- Laws of captures among a function's words. Assumes nothing.
use Prim.Native.Nat.{ℕ, ◌+◌, ◌-◌, ◌≤◌, ◌<◌}
use mathlib.Core.Bool.{cond}
use mathlib.Core.List.{[]}
use mathlib.Core.Path.{◌≡◌}
use native.Mathlib.Numerals.{add-one}
use lib.Dec.{ltb}
use borrow.Author.Tests.{lt-ltb, le-ltb}
use Rattle.lua51_instruction.specs.Word.{CLOSURE}
use Rattle.lua51_instruction.specs.Proto.{Proto, is, captures_of}
use Rattle.lua51_lifter.specs.Lift.{statements, pending}
use Rattle.lua51_statements.specs.Lines.{own_statements}

module _ (p : Proto) (i : ℕ) where
  pub statements_capture : 0 < pending p i → statements p i ≡ []
  unfolding statements
  statements_capture h = rw (lt-ltb 0 (pending p i) h)

  pub statements_own : pending p i ≤ 0 → statements p i ≡ own_statements p i
  unfolding statements
  statements_own h = rw (le-ltb 0 (pending p i) h)

  pub pending_next : pending p (i + 1) ≡ cond (ltb 0 (pending p i)) (pending p i - 1) (cond (is p i CLOSURE) (captures_of p i) 0)
  unfolding pending
  pending_next = rw add-one
