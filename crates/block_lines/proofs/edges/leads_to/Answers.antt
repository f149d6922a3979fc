-- `leads_to`: the block at the word that an edge goes to, or a between block. Assumes nothing.
use native.Mathlib.Omega.{arith}
use mathlib.Core.Path.{◌∙◌, sym}
use borrow.Author.Tests.{eqb-true, eqb-false}
use Rattle.cfg.specs.Arrays.{edge_meant}
use Rattle.block_lines.proofs.Leads.{leads_other, leads_past, leads_between, block_read, between_read, no_between_read}
use Rattle.block_lines.proofs.edges.leads_to.Goals as goal

pub returns-then-not-may_divert : goal.returns-then-not-may_divert
returns-then-not-may_divert c p e lt le leads =
    let a = c.args in
    block_read p a.notes.now e a.e.to le leads c.block_at.ensures c.unwrap_or.ensures
    ∙ sym (leads_other p a.i (edge_meant a.e) (eqb-false (edge_meant a.e).kind 1 (sym c.may_divert.ensures ∙ c.if-not-may_divert.true)))

pub returns-in-Some : goal.returns-in-Some
returns-in-Some c p e lt le leads =
    let a = c.args in
    let read = between_read p a.notes.now e a.i (omega arith) c.between_at.ensures c.in-Some.is in
    read.1 ∙ sym (leads_between p a.i (edge_meant a.e) (eqb-true (edge_meant a.e).kind 1 (sym c.may_divert.ensures ∙ c.if-not-may_divert.false)) read.0)

pub returns-in-None : goal.returns-in-None
returns-in-None c p e lt le leads =
    let a = c.args in
    let none = no_between_read p a.notes.now e a.i (omega arith) c.between_at.ensures c.in-None.is in
    block_read p a.notes.now e a.e.to le leads c.block_at-in-None.ensures c.unwrap_or-in-None.ensures
    ∙ sym (leads_past p a.i (edge_meant a.e) none)
