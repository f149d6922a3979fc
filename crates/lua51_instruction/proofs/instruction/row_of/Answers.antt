-- `instruction::row_of`: the table is the definition's, its three columns compared once. Assumes nothing.
use Prim.Native.Nat.{ℕ}
use mathlib.Core.List.{map}
use mathlib.Core.Path.{◌≡◌, ◌∙◌, sym, ap, refl}
use lib.ListN.{get_or, get_or-map}
use Rattle.lua51_instruction.specs.Word.{Op, UNKNOWN, opcodes, op_of, row, row_of}
use Rattle.lua51_instruction.specs.Word as word
use Rattle.lua51_instruction.specs.Instruction.{kind_meant}
use Rattle.lua51_instruction.specs.declared.instruction.Kind.{Kind}
use Rattle.lua51_instruction.specs.declared.instruction.TheConstants.{ROWS, NO_OPERANDS}
use Rattle.lua51_instruction.proofs.instruction.row_of.Goals as goal

-- a column of the code's table is that of the definition's
column : (code : Kind × Kind × Kind → Kind) (table : word.Row → word.Kind) → map (λ r. kind_meant (code r)) ROWS ≡ map (λ o. table (row o)) opcodes
    → kind_meant (code NO_OPERANDS) ≡ table (row UNKNOWN) → (i : ℕ) → kind_meant (code (get_or ROWS i NO_OPERANDS)) ≡ table (row_of i)
unfolding row_of op_of row
column code table e d i =
    sym (get_or-map (λ r. kind_meant (code r)) ROWS i NO_OPERANDS)
    ∙ ap (λ xs. get_or xs i (kind_meant (code NO_OPERANDS))) e
    ∙ ap (get_or (map (λ (o : Op). table (row o)) opcodes) i) d
    ∙ get_or-map (λ (o : Op). table (row o)) opcodes i UNKNOWN

pub returns : goal.returns
unfolding row
returns c =
    let i = c.args.opcode in
    rw c.at_or-a.ensures (rw c.from.ensures (record {
      a = column (λ r. r.0) (λ r. r.a) refl refl i;
      b = column (λ r. r.1) (λ r. r.b) refl refl i;
      c = column (λ r. r.2) (λ r. r.c) refl refl i;
    }))
