-- `notes::range_end`: the first note behind j that says a start. Assumes nothing.
use Prim.Native.Nat.{ℕ, ◌+◌}
use native.Mathlib.Omega.{arith}
use mathlib.Core.Path.{◌≡◌, ◌∙◌, sym, ap}
use lib.ListN.{length}
use Rattle.lua51_instruction.specs.Proto.{size}
use Rattle.cfg_notes.proofs.Parts.{notes_length, given, ungiven}
use Rattle.cfg_notes.proofs.Numbering.{end_last, end_first, end_none}
use Rattle.cfg_notes.proofs.notes.range_end.Goals as goal

pub returns-then-saturating_sub-le1-clause-value : goal.returns-then-saturating_sub-le1-clause-value
returns-then-saturating_sub-le1-clause-value c =
    let a = c.args in
    λ p e le.
    let long : length a.notes.now ≡ size p + 1 = rw e (notes_length p) in
    end_last p a.j (omega arith)

pub returns-in-Some-clause-value : goal.returns-in-Some-clause-value
returns-in-Some-clause-value c =
    let a = c.args in
    λ p e le.
    let long : length a.notes.now ≡ size p + 1 = rw e (notes_length p) in
    let found = given _ (sym c.in-Some.is ∙ c.first_start.ensures) in
    ap {B = ℕ} (λ (k : ℕ). a.j + 1 + k) found.1 ∙ end_first p a.j a.notes.now e (omega arith)

pub returns-in-None-clause-value : goal.returns-in-None-clause-value
returns-in-None-clause-value c =
    let a = c.args in
    λ p e le.
    let long : length a.notes.now ≡ size p + 1 = rw e (notes_length p) in
    end_none p a.j a.notes.now e (omega arith) (ungiven _ _ (sym c.in-None.is ∙ c.first_start.ensures))
