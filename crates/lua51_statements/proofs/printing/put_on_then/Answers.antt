-- `put_on_then` meets its contract: the opcodes with such an assignment. Assumes nothing.
use mathlib.Core.Path.{◌≡◌, ◌∙◌, sym}
use mathlib.Core.List.{flat_map}
use borrow.Author.Tests.{ne_eqb}
use Rattle.lines.proofs.Puts.{puts_nothing}
use Rattle.lua51_instruction.specs.Proto.{word, opcode}
use Rattle.lua51_lifter.specs.Lift.{on_then}
use Rattle.lua51_lifter.specs.Blocks.{naming, brought}
use native.Mathlib.Omega.{arith}
use Rattle.lua51_statements.proofs.printing.put_on_then.Goals as goal

pub returns-in-27 : goal.returns-in-27
unfolding on_then brought
returns-in-27 c p ws =
    let is : word p c.args.i ≡ c.at_or-word.result = rw ws (sym c.at_or-word.ensures) in
    let o : opcode p c.args.i ≡ 27 = rw is (sym c.opcode_of-opcode.ensures ∙ c.in-27.is) in
    rw (o, is, ← c.in-27.is, ← c.a_of.ensures, ← c.from-a.ensures, ← c.b_of.ensures, ← c.from.ensures) c.put_move.ensures

pub returns-in-31 : goal.returns-in-31
unfolding on_then brought
returns-in-31 c p ws =
    let is : word p c.args.i ≡ c.at_or-word.result = rw ws (sym c.at_or-word.ensures) in
    let o : opcode p c.args.i ≡ 31 = rw is (sym c.opcode_of-opcode.ensures ∙ c.in-31.is) in
    rw (o, is, ← c.in-31.is, ← c.a_of.ensures, ← c.from-a.ensures) c.put_move-in-31.ensures

pub returns-in-33 : goal.returns-in-33
unfolding on_then brought
returns-in-33 c p ws =
    let is : word p c.args.i ≡ c.at_or-word.result = rw ws (sym c.at_or-word.ensures) in
    let o : opcode p c.args.i ≡ 33 = rw is (sym c.opcode_of-opcode.ensures ∙ c.in-33.is) in
    rw (o, is, ← c.in-33.is, ← c.a_of.ensures, ← c.from-a.ensures) c.put_move-in-33.ensures

pub returns-in_default : goal.returns-in_default
unfolding on_then brought naming flat_map
returns-in_default c p ws =
    let is : word p c.args.i ≡ c.at_or-word.result = rw ws (sym c.at_or-word.ensures) in
    let same : opcode p c.args.i ≡ c.opcode_of-opcode.result = rw is (sym c.opcode_of-opcode.ensures) in
    let o = opcode p c.args.i in
    rw (ne_eqb o 27 (λ e. omega arith), ne_eqb o 31 (λ e. omega arith), ne_eqb o 33 (λ e. omega arith)) (puts_nothing c.args.out.now)
