-- One turn writes the first of the captures that are left. Assumes nothing.
use Rattle.std.proofs.Common.{◌≡◌, ◌+◌, ◌∙◌, length, min, arith, rules}
use Rattle.std.proofs.lemmas.List.{take_rest}
use Rattle.lua51_instruction.specs.Proto.{word}
use Rattle.ast.proofs.Written.{turned, done}
use Rattle.lua51_runs.proofs.Captured.{word_behind, captures_turn, captures_done}
use Rattle.lua51_runs.proofs.closures.push_captures.Goals as goal

pub loop-k-preserved : goal.loop-k-preserved
loop-k-preserved c =
    let l = c.loop-k in
    λ p ws.
    let i = c.args.i in
    let near : c.min.result ≡ min (length p.words) (min (i + 1) 18446744073709551615) = rw (ws, ← c.saturating_add.ensures) c.min.ensures in
    let is : word p (i + (l.k + 1)) ≡ c.at_or-word.result = word_behind p i l.k _ _ near (rw ws (omega arith)) ∙ rw (ws, c.at_or-word.ensures, take_rest) in
    turned (l.invariant p ws) (rw (c.capture_kind.ensures, c.from.ensures, c.b_of.ensures, ← is) at c.push_all.ensures)
    (captures_turn p (i + l.k) (i + (l.k + 1)) _ _ (omega arith) (omega arith))

pub returns : goal.returns
returns c =
    λ p ws.
    let all = done (c.loop-k.invariant p ws) (captures_done p _ _ (omega arith)) in
    search (rules, all.same, all.added)
