-- `put_nils` meets its contract. The loop's invariant: the assignments of the registers before the one that is next are printed.
-- Assumes nothing.
use mathlib.Core.List.{flat_map}
use Rattle.lines.proofs.Puts.{puts_skipped}
use Rattle.lua51_lifter.specs.Blocks.{naming}
use Rattle.lua51_lifter.specs.Listing.{statement_line}
use Rattle.lua51_statements.proofs.Nils.{nils, nils_length, nils_start, nils_turn}
use Rattle.std.proofs.Common.{◌+◌, ◌-◌, ◌≡◌, arith, rules}
use Rattle.lua51_statements.proofs.printing.put_nils.Goals as goal

pub returns-then-i-le-MOST_IN_COLUMNS : goal.returns-then-i-le-MOST_IN_COLUMNS
returns-then-i-le-MOST_IN_COLUMNS c =
    let a = c.args in
    puts_skipped (flat_map statement_line (naming a.i a.opcode (nils a.first a.count))) (rw c.from.ensures at c.skip.ensures)
    (nils_length a.i a.opcode a.first a.count c.if-i-le-MOST_IN_COLUMNS.true (search rules) (search rules)) (search rules)

pub loop-r-init : goal.loop-r-init
loop-r-init c =
    let a = c.args in
    let none : c.from-first.result - a.first ≡ 0 = omega arith in
    record { from_first = search rules; printed = rw none (nils_start a.i a.opcode a.out.now a.first) }

pub loop-r-preserved : goal.loop-r-preserved
loop-r-preserved c =
    let l = c.loop-r in
    let a = c.args in
    let next : l.r + 1 - a.first ≡ l.r - a.first + 1 = omega (arith, l.invariant.from_first) in
    let here : a.first + (l.r - a.first) ≡ l.r = omega (arith, l.invariant.from_first) in
    record {
      from_first = omega (arith, l.invariant.from_first);
      printed = rw next (nils_turn a.i a.opcode a.first (l.r - a.first) l.invariant.printed (rw here c.put_statement.ensures));
    }

pub returns : goal.returns
returns c =
    let l = c.loop-r in
    let a = c.args in
    let all : l.r - a.first ≡ a.count = omega arith in
    rw all at l.invariant.printed
