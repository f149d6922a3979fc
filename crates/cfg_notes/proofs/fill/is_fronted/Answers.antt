-- `fill::is_fronted`: by the opcode, and for a loop by its between block. Assumes nothing.
use mathlib.Core.Path.{◌≡◌, ◌∙◌, sym}
use Rattle.lua51_instruction.specs.Proto.{word}
use Rattle.cfg.proofs.Diverting.{diverted_by_lem}
use Rattle.cfg_notes.proofs.Fronts.{loop_fronted}
use Rattle.cfg_notes.proofs.fill.is_fronted.Goals as goal

pub returns-then-is_loop : goal.returns-then-is_loop
returns-then-is_loop c =
    let a = c.args in
    λ p e k.
    let word_is : word p a.i ≡ c.at_or-word.result = rw e (sym c.at_or-word.ensures) in
    let loop = sym (c.is_loop.ensures p a.i word_is) ∙ c.if-is_loop.true in
    sym (loop_fronted p a.i c.is_diverted.result loop (c.is_diverted.ensures p e ∙ diverted_by_lem p a.i _ k))
