-- `instruction::sbx_of`: Bx has 18 bits, so the difference fits an i32. Assumes nothing.
use native.Mathlib.Omega.{arith}
use mathlib.Core.Path.{◌≡◌, ◌∙◌, ap, subst, sym}
use lib.IntN.{ℤ, pos, ◌-ℤ◌}
use mir.Syntax.{w32}
use mir.Val.{SFits, to_z, of_z}
use mir.ValLaws.{to_z_pos}
use Rattle.lua51_instruction.specs.Word.{field_bx, bias}
use Rattle.lua51_instruction.specs.Jump.{s_bx}
use Rattle.lua51_instruction.proofs.Signed.{back}
use Rattle.lua51_instruction.proofs.Targets.{s_bx_small}
use Rattle.lua51_instruction.proofs.instruction.sbx_of.Goals.{After-bx_of}
use Rattle.lua51_instruction.proofs.instruction.sbx_of.Goals as goal

difference : (c : After-bx_of) → to_z w32 c.bx_of.result -ℤ pos bias ≡ s_bx c.args.word
difference c = rw (c.bx_of.ensures, to_z_pos w32 (field_bx c.args.word) (omega arith))

pub overflow_sub-result : goal.overflow_sub-result
overflow_sub-result c = subst (SFits w32) (sym (difference c)) (record { sfits = s_bx_small c.args.word })

pub returns : goal.returns
returns c = ap (λ (z : ℤ). to_z w32 (of_z w32 z)) (difference c) ∙ back (s_bx c.args.word) (s_bx_small c.args.word)
