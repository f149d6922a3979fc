-- `put_edges`: none, one or two. Assumes nothing.
use mathlib.Core.Path.{◌≡◌, ◌∙◌, ap}
use mathlib.Core.List.{[], ◌∷◌}
use Rattle.lines.proofs.Puts.{puts_nothing, puts_then, prints_nothing, prints_further}
use Rattle.lua51_instruction.specs.Proto.{flow_at}
use Rattle.basics.specs.Range.{only}
use Rattle.cfg.specs.Graph.{leaving}
use Rattle.cfg.specs.Arrays.{edge_meant, edges_meant}
use Rattle.block_lines.proofs.Leads.{Land, leaving_land, edges_are, no_edge, one_edge, two_edges}
use Rattle.block_lines.proofs.edges.put_edges.Goals as goal

pub returns-in-None-clause-result_after : goal.returns-in-None-clause-result_after
returns-in-None-clause-result_after c =
    let a = c.args in
    let r = c.edges_at in
    λ p ok lt next.
    let none : leaving p a.i (flow_at p a.i) ≡ [] =
    edges_are p a.i (edges_meant r.result) lt (r.ensures p ok.words) ∙ ap edges_meant c.in-None.is in
    rw (no_edge p a.i none) (puts_nothing a.out.now)

pub returns-in-None-clause-anyway : goal.returns-in-None-clause-anyway
returns-in-None-clause-anyway c = prints_nothing c.args.out.now

pub returns-in-One-clause-result_after : goal.returns-in-One-clause-result_after
returns-in-One-clause-result_after c =
    let a = c.args in
    let r = c.edges_at in
    let e = edge_meant c.in-One.e in
    λ p ok lt next.
    let one : leaving p a.i (flow_at p a.i) ≡ only e =
    edges_are p a.i (edges_meant r.result) lt (r.ensures p ok.words) ∙ ap edges_meant c.in-One.is in
    let to : Land p (only e) = rw one at (leaving_land p ok.fine a.i lt next) in
    rw (one_edge p a.i e one) (c.put_edge.ensures.result_after p ok.notes lt to.0.inside to.0.leads)

pub returns-in-Two-clause-result_after : goal.returns-in-Two-clause-result_after
returns-in-Two-clause-result_after c =
    let a = c.args in
    let r = c.edges_at in
    let e = edge_meant c.in-Two.e in
    let f = edge_meant c.in-Two.f in
    λ p ok lt next.
    let two : leaving p a.i (flow_at p a.i) ≡ e ∷ f ∷ [] =
    edges_are p a.i (edges_meant r.result) lt (r.ensures p ok.words) ∙ ap edges_meant c.in-Two.is in
    let to : Land p (e ∷ f ∷ []) = rw two at (leaving_land p ok.fine a.i lt next) in
    rw (two_edges p a.i e f two)
    (puts_then
    (c.put_edge-in-Two.ensures.result_after p ok.notes lt to.0.inside to.0.leads)
    (c.put_edge-in-Two-2.ensures.result_after p ok.notes lt to.1.0.inside to.1.0.leads))

pub returns-in-Two-clause-anyway : goal.returns-in-Two-clause-anyway
returns-in-Two-clause-anyway c = prints_further c.put_edge-in-Two.ensures.anyway c.put_edge-in-Two-2.ensures.anyway
