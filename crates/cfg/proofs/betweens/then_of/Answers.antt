-- `betweens::then_of`: a numeric loop goes to its target, every other word to the next. Assumes nothing.
use mathlib.Core.Path.{◌∙◌, ap, sym}
use lib.ListN.{length}
use Prim.Native.Nat.{ℕ, ◌+◌}
use borrow.Author.Tests.{ltb-true}
use Rattle.std.proofs.lemmas.List.{get_or_read}
use Rattle.std.specs.Prelude.{Option, Some, None}
use Rattle.lua51_instruction.specs.Word.{numeric_loop}
use Rattle.lua51_instruction.specs.Instruction.{flow_meant}
use Rattle.cfg.specs.Graph.{then_of}
use Rattle.cfg.proofs.Claims.{within}
use Rattle.cfg.proofs.Diverting.{not_numeric, then_by}
use Rattle.cfg.proofs.betweens.then_of.Goals as goal

pub returns-in-NumericLoop : goal.returns-in-NumericLoop
returns-in-NumericLoop c =
    let a = c.args in
    let w = c.in_ok-word.field-0.now in
    let read = c.in_ok-word.ensures.lookup in
    let inside = ltb-true a.i (length a.words.now) (sym read.0) in
    λ p e. within (Some (then_of p a.i)) (Some c.landing.result) None p a.words.now a.i e inside
    (ap {B = Option ℕ} Some (c.landing.ensures p e ∙ then_by p a.i w numeric_loop (rw e (sym (get_or_read a.words.now a.i w inside read.1 0))) c.in-NumericLoop.ensures))

pub returns-in_default : goal.returns-in_default
returns-in_default c =
    let a = c.args in
    let f = flow_meant c.flow_of.result in
    let w = c.in_ok-word.field-0.now in
    let read = c.in_ok-word.ensures.lookup in
    let inside = ltb-true a.i (length a.words.now) (sym read.0) in
    λ p e. within (Some (then_of p a.i)) (Some (a.i + 1)) None p a.words.now a.i e inside
    (ap {B = Option ℕ} Some (rw (not_numeric c.flow_of.result c.in_default.not-NumericLoop) at (then_by p a.i w f (rw e (sym (get_or_read a.words.now a.i w inside read.1 0))) c.flow_of.ensures)))
