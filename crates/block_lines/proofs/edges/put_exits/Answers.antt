-- `put_exits`: the edges of the last word; at n none. Assumes nothing.
use native.Mathlib.Omega.{arith}
use mathlib.Core.Path.{◌≡◌, ◌∙◌, ap}
use mathlib.Core.List.{flat_map}
use Prim.Native.Nat.{ℕ, ◌-◌, ◌<◌}
use Rattle.lines.proofs.Puts.{puts_nothing, prints_nothing}
use Rattle.lua51_instruction.specs.Proto.{size}
use Rattle.cfg.specs.Graph.{past}
use Rattle.block_lines.proofs.Leads.{end_edges, last_edges, last_inside, last_leads}
use Rattle.block_lines.proofs.edges.put_exits.Goals as goal

pub returns-then-drawn-j-clause-result_after : goal.returns-then-drawn-j-clause-result_after
unfolding flat_map
returns-then-drawn-j-clause-result_after c =
    let a = c.args in
    λ p ok le e.
    let end : a.j ≡ size p = rw ok.words (omega (arith, c.if-drawn-j.true, rw ok.words at le)) in
    rw (end_edges p a.j end) (puts_nothing a.out.now)

pub returns-then-drawn-j-clause-anyway : goal.returns-then-drawn-j-clause-anyway
returns-then-drawn-j-clause-anyway c = prints_nothing c.args.out.now

pub returns-clause-result_after : goal.returns-clause-result_after
returns-clause-result_after c =
    let a = c.args in
    let last = c.saturating_sub in
    λ p ok le e.
    let lt : a.j < size p = rw ok.words c.if-drawn-j.false in
    let which : last.result ≡ past p a.j - 1 = last.ensures ∙ ap {B = ℕ} (λ (x : ℕ). x - 1) e in
    rw (last_edges p a.j lt, ← which)
    (c.put_edges.ensures.result_after p ok (rw which (last_inside p a.j ok.fine lt)) (rw which (last_leads p a.j ok.fine lt)))
