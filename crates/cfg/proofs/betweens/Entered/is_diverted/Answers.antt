-- `betweens::Entered::is_diverted`: a loop, and the count at the word of its Then edge. Assumes nothing.
use Prim.Native.Nat.{◌<◌}
use mathlib.Core.Bool.{true}
use mathlib.Core.Path.{◌≡◌, ◌∙◌, sym}
use borrow.Author.Tests.{lt-ltb}
use Rattle.lua51_instruction.specs.Proto.{size}
use Rattle.cfg.specs.Graph.{is_loop}
use Rattle.cfg.proofs.Diverting.{loop_inside}
use Rattle.cfg.proofs.betweens.Entered.is_diverted.Goals as goal

pub returns-in-None : goal.returns-in-None
returns-in-None c =
    let a = c.args in
    λ p e.
    let loop : is_loop p a.i ≡ true = sym (c.is_loop.ensures p a.i (rw e (sym c.at_or.ensures))) ∙ c.if-not-is_loop.false in
    let inside : a.i < size p = loop_inside p a.i loop in
    let none = sym c.in-None.is ∙ c.then_of.ensures p e in
    let lost = rw (lt-ltb a.i (size p) inside) at none in
    cc
