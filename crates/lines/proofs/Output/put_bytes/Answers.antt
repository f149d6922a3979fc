-- `put_bytes` meets its contract. The loop's invariant: the bytes before the one that is next are printed. Assumes nothing.
use mathlib.Core.Path.{sym}
use lib.Seq.{take_all}
use Rattle.lines.proofs.Puts.{puts_nothing, puts_then, puts_equal}
use Rattle.std.proofs.lemmas.List.{take_more}
use Rattle.std.proofs.Common.{rules}
use Rattle.lines.proofs.Output.put_bytes.Goals as goal

pub loop-b-init : goal.loop-b-init
loop-b-init c = puts_nothing c.args.self.now

pub loop-b-preserved : goal.loop-b-preserved
loop-b-preserved c =
    let l = c.loop-b in
    puts_equal (sym (take_more c.args.bytes.now l.b-index 0 (search rules))) (puts_then l.invariant c.put_byte.ensures)

pub returns : goal.returns
returns c =
    let l = c.loop-b in
    puts_equal (take_all l.b-index c.args.bytes.now c.loop-b-test.false) l.invariant
