-- `fill::fill`: the starts, the between blocks and the fronts, by the function's marks and counts. Assumes nothing.
use native.Mathlib.Omega.{arith}
use Prim.Native.Nat.{◌+◌}
use mathlib.Core.Path.{◌≡◌}
use lib.ListN.{length}
use Rattle.lua51_instruction.specs.Proto.{size}
use Rattle.cfg_notes.proofs.Parts.{marks_whole, counts_whole}
use Rattle.cfg_notes.proofs.fill.fill.Goals as goal

pub returns : goal.returns
returns c =
    let a = c.args in
    λ p e.
    let past : length a.words.now + 1 ≡ size p + 1 = rw e in
    let as_many : length a.counts.now ≡ size p + 1 = omega (arith, c.requires.counts_len) in
    let leaders = marks_whole p _ (length a.marks.now) (c.mark_leaders.ensures p e) (omega (arith, c.requires.marks_len)) in
    let counts = counts_whole p _ _ (length a.counts.now) leaders (c.count_entering.ensures p e) as_many in
    let started = c.note_starts-first.ensures.starts_after p leaders in
    c.note_fronts.ensures p e counts (c.note_betweens.ensures p e counts started.1 started.0)
