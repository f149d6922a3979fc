-- `edges::count_entering`: after i words the counts are those of their edges and the entry's. Assumes nothing.
use Prim.Native.Nat.{◌<◌, min}
use native.Mathlib.Omega.{arith}
use mathlib.Core.Path.{◌≡◌, ◌∙◌}
use lib.ListN.{length}
use Rattle.lua51_instruction.specs.Proto.{size}
use Rattle.cfg.specs.Arrays.{more, targets, entering_by}
use Rattle.basics.proofs.Tables.{tabled}
use Rattle.cfg.proofs.Counts.{entry_at, counts_turn, counts_none}
use Rattle.cfg.proofs.edges.count_entering.Goals as goal

pub loop-i-init : goal.loop-i-init
loop-i-init c =
    let a = c.args in
    let first = entry_at (length a.counts.now) c.fill.new.self c.enter.new.counts (c.fill.ensures.after (λ y z. z)) c.enter.ensures in
    λ p e t lt. first t (omega (arith, c.enter.auto.counts, c.fill.auto.self)) ∙ counts_none p a.marks.now t

pub loop-i-preserved : goal.loop-i-preserved
loop-i-preserved c =
    let l = c.loop-i in
    λ p e t lt.
    let inside : t < length l.counts = omega (arith, c.enter_all.auto.counts) in
    rw c.enter_all.ensures
    (counts_turn p c.args.marks.now l.i t (targets c.exits_at.result) l.counts inside (c.exits_at.ensures p e t) (l.invariant p e t inside))

pub returns : goal.returns
returns c =
    let l = c.loop-i in
    let a = c.args in
    let same_length : length c.loop-i.counts ≡ length a.counts.now = omega (arith, c.enter.auto.counts, c.fill.auto.self) in
    λ p e. tabled (λ t. min (entering_by p a.marks.now t) more) l.counts (length a.counts.now) same_length (λ t lt.
    let all : l.i ≡ size p = rw e (omega arith) in
    rw all at (l.invariant p e t lt))
