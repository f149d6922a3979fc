-- `put_statements` meets its contract: LOADNIL's nils, or a loop. The loop's invariant: the statements before the one that is next
-- are printed. Assumes nothing.
use Prim.Native.Nat.{◌≤◌, ◌<◌}
use mathlib.Core.Path.{◌≡◌, ◌∙◌, sym}
use mathlib.Core.List.{[]}
use lib.ListN.{length}
use Rattle.lua51_instruction.specs.Word.{LOADNIL, number_of}
use Rattle.lua51_instruction.specs.Proto.{word}
use Rattle.lua51_instruction.specs.Proto as proto
use Rattle.ast.specs.Statement.{close}
use Rattle.ast.proofs.Written.{held}
use Rattle.lua51_statements.specs.Lines.{own_statements, line_within}
use Rattle.lua51_statements.proofs.Nils.{nils_own, nils_whole}
use Rattle.lua51_statements.proofs.Pieces.{named_start, named_turn, named_done}
use Rattle.std.proofs.Common.{rules}
use Rattle.lua51_statements.proofs.printing.put_statements.Goals as goal

pub returns-then-run-ge-NIL_NUMBERS : goal.returns-then-run-ge-NIL_NUMBERS
returns-then-run-ge-NIL_NUMBERS c p ks st =
    let a = c.args in
    let is : word p a.i ≡ c.at_or-word.result = rw st.words (sym c.at_or-word.ensures) in
    let loads : proto.opcode p a.i ≡ number_of LOADNIL = rw is (sym c.opcode_of-opcode.ensures ∙ c.if-opcode-eq-LOADNIL.true) in
    let own = nils_own p a.i c.statement_count-count.result loads (c.statement_count-count.ensures p a.i is) in
    let whole = nils_whole a.i (proto.opcode p a.i) (length a.run.now) c.if-run-ge-NIL_NUMBERS.true in
    rw (own, whole, is, ← c.opcode_of-opcode.ensures, ← c.a_of.ensures)
    c.put_nils.ensures

pub loop-k-init : goal.loop-k-init
loop-k-init c =
    let a = c.args in
    record {
      room = search rules;
      printed = λ p ks st. named_start (line_within (length a.run.now)) a.i (proto.opcode p a.i) (own_statements p a.i) a.out.now;
    }

pub loop-k-preserved : goal.loop-k-preserved
unfolding line_within
loop-k-preserved c =
    let a = c.args in
    let l = c.loop-k in
    record {
      room = search rules;
      printed = λ p ks st.
          let is : word p a.i ≡ c.at_or-word.result = rw st.words (sym c.at_or-word.ensures) in
          let has : l.k < length (own_statements p a.i) = rw (← c.statement_count-count.ensures p a.i is) c.loop-k-test.true in
          let says = held c.new-written.ensures.empty (c.statement.ensures p st.words st.nested st.nups st.stack has) in
          let same : proto.opcode p a.i ≡ c.opcode_of-opcode.result = rw is (sym c.opcode_of-opcode.ensures) in
          let f = line_within (length a.run.now) in
          named_turn f a.i (proto.opcode p a.i) (own_statements p a.i) (close []) l.k (l.invariant.printed p ks st)
          (rw (← l.invariant.room, ← says, ← c.as_slice.ensures, same) c.put_statement.ensures) has;
    }

pub returns : goal.returns
returns c p ks st =
    let a = c.args in
    let l = c.loop-k in
    let many = c.statement_count-count.ensures p a.i (rw st.words (sym c.at_or-word.ensures)) in
    let all : length (own_statements p a.i) ≤ l.k = rw (← many) c.loop-k-test.false in
    named_done (line_within (length a.run.now)) a.i (proto.opcode p a.i) (own_statements p a.i) l.k (l.invariant.printed p ks st) all
