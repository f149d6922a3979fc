-- `set_list` meets its contract: the registers, then the tail. Assumes nothing.
use mathlib.Core.Path.{◌≡◌, sym}
use Rattle.std.proofs.Common.{◌+◌, ◌-◌, arith, eq-eqb, ne_eqb}
use Rattle.lua51_instruction.specs.Proto.{word}
use Rattle.ast.specs.Statement.{tail_numbers, no_tail, open_tail}
use Rattle.ast.proofs.Written.{then}
use Rattle.lua51_lifter.specs.Lift.{statements_by, open_results}
use Rattle.lua51_runs.proofs.Assigned.{list_numbers}
use Rattle.lua51_calls.proofs.lists.set_list.Goals as goal

pub returns-then-b-gt0 : goal.returns-then-b-gt0
unfolding statements_by tail_numbers
returns-then-b-gt0 c p st =
    let is : word p c.args.i ≡ c.at_or-word.result = rw st (sym c.at_or-word.ensures) in
    rw (
      is,
      ← c.a_of-a.ensures,
      ← c.b_of-b.ensures,
      ← c.c_of-c.ensures,
      ne_eqb c.b_of-b.result 0 (λ e. omega (arith, c.if-b-gt0.true)),
      list_numbers c.a_of-a.result c.c_of-c.result c.b_of-b.result no_tail,
    )
    (then c.push_list.ensures c.push.ensures)

pub returns : goal.returns
unfolding statements_by tail_numbers
returns c p st =
    let i = c.args.i in
    let is : word p i ≡ c.at_or-word.result = rw st (sym c.at_or-word.ensures) in
    let was : word p (i - 1) ≡ c.at_or.result = rw (st, ← c.saturating_sub-j.ensures) (sym c.at_or.ensures) in
    let below : c.saturating_sub-below.result ≡ c.a_of-opener.result - (c.a_of-a.result + 1) = rw (c.from.ensures, c.from-2.ensures) at c.saturating_sub-below.ensures in
    rw (
      was,
      is,
      ← c.a_of-a.ensures,
      ← c.b_of-b.ensures,
      ← c.c_of-c.ensures,
      ← c.a_of-opener.ensures,
      ← below,
      ← c.saturating_sub-j.ensures,
      eq-eqb c.b_of-b.result 0 (omega (arith, c.if-b-gt0.false)),
      list_numbers c.a_of-a.result c.c_of-c.result c.saturating_sub-below.result (open_tail (open_results p c.saturating_sub-j.result)),
    )
    (then c.push_list-2.ensures
    (then c.push-2.ensures (c.push_open_results.ensures p st)))
