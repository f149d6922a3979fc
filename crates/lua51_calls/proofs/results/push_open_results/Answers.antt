-- `push_open_results` meets its contract: variable arguments, a closed call, or one turn for a call that takes open results itself.
-- Assumes nothing.
use mathlib.Core.Path.{◌≡◌, ◌∙◌, sym}
use Rattle.std.proofs.Common.{◌+◌, ◌-◌, ◌<◌, arith}
use Rattle.lua51_instruction.specs.Word.{VARARG, number_of, field_b}
use Rattle.lua51_instruction.specs.Proto.{word, opcode}
use Rattle.ast.proofs.Written.{turned, last}
use Rattle.lua51_calls.proofs.Open.{open_vararg, open_closed, open_first, open_link}
use Rattle.lua51_calls.proofs.results.push_open_results.Goals as goal

pub returns-then-opcode_of-eq-VARARG : goal.returns-then-opcode_of-eq-VARARG
returns-then-opcode_of-eq-VARARG c p st =
    let l = c.loop-before in
    let here : l.before - 1 + 1 ≡ l.before = omega arith in
    let is : word p l.before ≡ c.at_or-word.result = rw (st, ← here) (sym c.at_or-word.ensures) in
    let ends = open_vararg p l.before (rw is (sym c.opcode_of.ensures ∙ c.if-opcode_of-eq-VARARG.true)) in
    last (l.invariant p st) c.push_alone.ensures (rw (ends, is))

pub returns-then-b_of-gt0 : goal.returns-then-b_of-gt0
returns-then-b_of-gt0 c p st =
    let l = c.loop-before in
    let here : l.before - 1 + 1 ≡ l.before = omega arith in
    let is : word p l.before ≡ c.at_or-word.result = rw (st, ← here) (sym c.at_or-word.ensures) in
    let some : 0 < field_b c.at_or-word.result = rw c.b_of.ensures at c.if-b_of-gt0.true in
    let ends = open_closed p l.before (rw is some) in
    last (l.invariant p st) c.push_alone-then-b_of-gt0.ensures (rw (ends, is))

pub loop-before-preserved : goal.loop-before-preserved
loop-before-preserved c p st =
    let l = c.loop-before in
    let here : l.before - 1 + 1 ≡ l.before = omega arith in
    let none : field_b c.at_or-word.result ≡ 0 = omega (arith, c.b_of.ensures, c.if-b_of-gt0.false) in
    let is : word p l.before ≡ c.at_or-word.result = rw (st, ← here) (sym c.at_or-word.ensures) in
    let was : word p (l.before - 1) ≡ c.at_or.result = rw st (sym c.at_or.ensures) in
    let call : opcode p l.before ≡ number_of VARARG → ⊥ = λ v. c.if-opcode_of-eq-VARARG.false (c.opcode_of.ensures ∙ rw is at v) in
    turned (l.invariant p st) c.push_open_call.ensures
    (rw (open_link p l.before c.loop-before-test.true call (rw is none), is, was, c.a_of.ensures, c.a_of-in-loop-before.ensures))

pub returns : goal.returns
returns c p st =
    let l = c.loop-before in
    let first : l.before ≡ 0 = omega (arith, c.loop-before-test.false) in
    let is : word p 0 ≡ c.at_or-2.result = rw st (sym c.at_or-2.ensures) in
    last (l.invariant p st) c.push_alone-2.ensures (rw (first, open_first p, is))
