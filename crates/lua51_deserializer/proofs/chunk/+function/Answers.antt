-- `chunk::function` meets its contract. Assumes nothing.
use Rattle.std.proofs.Common.{◌∙◌, ◌-◌, ◌≤◌, length, arith}
use native.Mathlib.Nat.{sub-zero}
use Rattle.std.proofs.lemmas.Result.{err_from_is_err_and}
use Rattle.lua51_deserializer.specs.Chunk.{function}
use Rattle.lua51_deserializer.specs.Walked.{places_of}
use Rattle.lua51_deserializer.proofs.Places.{places_length}
use Rattle.lua51_deserializer.proofs.Nesting.{many_turn, many_stops, many_none, function_deep, function_full, function_unbegun, function_uncounted, function_stops, function_ends}
use Rattle.lua51_deserializer.proofs.Bounds.{count_bounded, function_bounded, read_inside, walk_inside}
use Rattle.lua51_deserializer.proofs.chunk.+function.Goals as goal
use Rattle.lua51_deserializer.proofs.chunk.+function.Goals.{then-depth-eq0-via-then-depth-eq0, then-depth-eq0-via-else-depth-eq0+then-functions-ge-MOST_FUNCTIONS}

pub returns-then-depth-eq0 : goal.returns-then-depth-eq0
returns-then-depth-eq0 t c =
    let a = c.args in
    let ps = places_of a.functions.now in
    elim c.then-depth-eq0.branch [
      | then-depth-eq0-via-then-depth-eq0 w ↦ function_deep a.s.now a.depth a.parent ps a.at w.if-depth-eq0.true
      | then-depth-eq0-via-else-depth-eq0+then-functions-ge-MOST_FUNCTIONS w ↦
          let full : 256 ≤ length ps = omega (arith, places_length a.functions.now, w.if-functions-ge-MOST_FUNCTIONS.true) in
          function_full a.s.now a.depth a.parent ps a.at w.if-depth-eq0.false full
    ]

pub returns-in_err-count_at : goal.returns-in_err-count_at
returns-in_err-count_at t c =
    let a = c.args in
    let p = err_from_is_err_and c.from_residual.result c.from_residual.ensures.1 in
    rw (p.1, p.2)
    (function_unbegun a.s.now a.depth a.parent (places_of a.functions.now) a.at c.if-depth-eq0.false
    a.functions.now.count (places_length a.functions.now) c.if-functions-ge-MOST_FUNCTIONS.false c.in_err-count_at.ensures)

pub returns-in_err-reached : goal.returns-in_err-reached
returns-in_err-reached t c =
    let a = c.args in
    let p = err_from_is_err_and c.from_residual-in_err-reached.result c.from_residual-in_err-reached.ensures.1 in
    rw (p.1, p.2)
    (function_uncounted a.s.now a.depth a.parent (places_of a.functions.now) a.at c.if-depth-eq0.false
    a.functions.now.count (places_length a.functions.now) c.if-functions-ge-MOST_FUNCTIONS.false
    (places_of c.begin.new.functions) c.in_ok-count_at.count_at c.in_ok-count_at.ensures c.in_err-reached.ensures)

pub loop-i-init : goal.loop-i-init
loop-i-init t c = record {
  inside = read_inside c.args.s.now c.in_ok-reached.ensures (count_bounded c.args.s.now c.in_ok-count_at.count_at);
  left = rw sub-zero;
}

pub returns-in_err-reached-2 : goal.returns-in_err-reached-2
returns-in_err-reached-2 t c =
    let a = c.args in
    let l = c.loop-i in
    let p = err_from_is_err_and c.from_residual-in_err-reached-2.result c.from_residual-in_err-reached-2.ensures.1 in
    rw (p.1, p.2)
    (function_stops a.s.now a.depth a.parent (places_of a.functions.now) a.at c.if-depth-eq0.false
    a.functions.now.count (places_length a.functions.now) c.if-functions-ge-MOST_FUNCTIONS.false
    (places_of c.begin.new.functions) c.in_ok-count_at.count_at c.in_ok-count_at.ensures
    c.in_ok-reached.reached c.int_at-count.result c.in_ok-reached.ensures c.int_at-count.ensures
    (many_stops (function a.s.now (a.depth - 1) a.functions.now.count) c.int_at-count.result l.i (places_of l.functions) (places_of c.function.new.functions) l.reached
    c.loop-i-test.true c.in_err-reached-2.ensures ∙ l.invariant.left))

pub loop-i-preserved : goal.loop-i-preserved
loop-i-preserved t c =
    let a = c.args in
    let l = c.loop-i in
    record {
      inside = walk_inside a.s.now c.in_ok-reached-2.ensures (function_bounded a.s.now (a.depth - 1) a.functions.now.count (places_of l.functions) l.reached);
      left = many_turn (function a.s.now (a.depth - 1) a.functions.now.count) c.int_at-count.result l.i (places_of l.functions) (places_of c.function.new.functions) l.reached
          c.in_ok-reached-2.reached c.loop-i-test.true c.in_ok-reached-2.ensures ∙ l.invariant.left;
    }

pub returns : goal.returns
returns t c =
    let a = c.args in
    let l = c.loop-i in
    function_ends a.s.now a.depth a.parent (places_of a.functions.now) a.at c.if-depth-eq0.false
    a.functions.now.count (places_length a.functions.now) c.if-functions-ge-MOST_FUNCTIONS.false
    (places_of c.begin.new.functions) c.in_ok-count_at.count_at c.in_ok-count_at.ensures
    c.in_ok-reached.reached c.int_at-count.result c.in_ok-reached.ensures c.int_at-count.ensures
    (places_of l.functions) l.reached _
    (many_none (function a.s.now (a.depth - 1) a.functions.now.count) c.int_at-count.result l.i (places_of l.functions) l.reached c.loop-i-test.false ∙ l.invariant.left)
    c.finish.ensures
