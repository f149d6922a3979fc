-- `push_alone` meets its contract. Assumes nothing.
use mathlib.Core.Path.{◌∙◌, sym}
use Rattle.std.proofs.Common.{eq-eqb, ne_eqb}
use Rattle.ast.specs.Statement.{expr}
use Rattle.lua51_calls.specs.Calls.{results_alone}
use Rattle.lua51_calls.proofs.results.push_alone.Goals as goal

pub returns-then-opcode_of-eq-VARARG : goal.returns-then-opcode_of-eq-VARARG
unfolding results_alone expr
returns-then-opcode_of-eq-VARARG c =
    rw (eq-eqb _ _ (sym c.opcode_of.ensures ∙ c.if-opcode_of-eq-VARARG.true)) c.push.ensures

pub returns : goal.returns
unfolding results_alone
returns c =
    rw (
      ne_eqb _ _ (λ e. c.if-opcode_of-eq-VARARG.false (c.opcode_of.ensures ∙ e)),
      ← c.a_of.ensures,
      ← c.b_of.ensures,
    )
    c.push_closed_call.ensures
