-- `put_numbers` meets its contract. The loop's invariant: the numbers before the one that is next are printed. Assumes nothing.
use Rattle.lines.specs.Line.{column}
use Rattle.lines.proofs.Puts.{loop_start, loop_turn, loop_done}
use Rattle.std.proofs.Common.{rules}
use Rattle.lines.proofs.Output.put_numbers.Goals as goal

pub loop-n-init : goal.loop-n-init
loop-n-init g c = loop_start (λ (n : g.row.T.Denot). column (g.T.Columned.value n)) _ c.args.numbers.now

pub loop-n-preserved : goal.loop-n-preserved
loop-n-preserved g c =
    let l = c.loop-n in
    let print = λ (n : g.row.T.Denot). column (g.T.Columned.value n) in
    loop_turn print c.args.numbers.now l.n-index c.n-item.result l.invariant c.put_columns.ensures (search rules) c.n-item.is

pub returns : goal.returns
returns g c =
    let l = c.loop-n in
    let all = loop_done (λ (n : g.row.T.Denot). column (g.T.Columned.value n)) c.args.numbers.now l.n-index l.invariant c.loop-n-test.false in
    search (rules, all.same, all.printed)
