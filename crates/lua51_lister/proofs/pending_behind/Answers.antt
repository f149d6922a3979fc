-- `pending_behind` meets its contract. Assumes nothing.
use mathlib.Core.Path.{◌≡◌, ◌∙◌, sym}
use borrow.Author.Tests.{lt-ltb, le-ltb, eq-eqb, ne_eqb}
use Rattle.lua51_instruction.specs.Word.{number_of, CLOSURE}
use Rattle.lua51_instruction.specs.Proto.{word, opcode, captures_of}
use Rattle.lua51_lister.proofs.Pending.{pending_next}
use Rattle.lua51_lister.proofs.pending_behind.Goals as goal

pub returns-then-pending-gt0 : goal.returns-then-pending-gt0
returns-then-pending-gt0 c p ks st e = rw (pending_next p c.args.i, ← e, lt-ltb 0 c.args.pending c.if-pending-gt0.true)

pub returns-then-opcode_of-eq-CLOSURE : goal.returns-then-opcode_of-eq-CLOSURE
returns-then-opcode_of-eq-CLOSURE c p ks st e =
    let a = c.args in
    let is : word p a.i ≡ c.at_or-word.result = rw st.words (sym c.at_or-word.ensures) in
    let closes : opcode p a.i ≡ number_of CLOSURE = rw is (sym c.opcode_of.ensures ∙ c.if-opcode_of-eq-CLOSURE.true) in
    let many : c.at_or.result ≡ captures_of p a.i = rw (st.nups, is, ← c.bx_of.ensures) c.at_or.ensures in
    rw (
      pending_next p a.i,
      ← e,
      le-ltb 0 a.pending c.if-pending-gt0.false,
      eq-eqb (opcode p a.i) (number_of CLOSURE) closes,
    )
    many

pub returns : goal.returns
returns c p ks st e =
    let a = c.args in
    let is : word p a.i ≡ c.at_or-word.result = rw st.words (sym c.at_or-word.ensures) in
    let not : opcode p a.i ≡ number_of CLOSURE → ⊥ = λ o. c.if-opcode_of-eq-CLOSURE.false (c.opcode_of.ensures ∙ rw is at o) in
    rw (
      pending_next p a.i,
      ← e,
      le-ltb 0 a.pending c.if-pending-gt0.false,
      ne_eqb (opcode p a.i) (number_of CLOSURE) not,
    )
