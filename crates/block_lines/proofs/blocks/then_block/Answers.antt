-- `then_block`: the block at the word that the Then edge goes to. Assumes nothing.
use lib.Dec.{ltb}
use Rattle.lua51_instruction.specs.Proto.{size}
use Rattle.cfg_notes.proofs.Parts.{given}
use Rattle.block_lines.proofs.blocks.then_block.Goals as goal

pub returns : goal.returns
returns c =
    λ p e.
    let to = given (ltb c.args.i (size p)) (c.in_ok-t.ensures p e) in
    rw (to.0, ← to.1) c.block_at.ensures
