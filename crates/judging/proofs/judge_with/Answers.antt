-- `judge_with`. The loop's invariant: the judgement of the functions that are left is the chunk's. That it is function f that is checked
-- is searched for: with `f * 1` in its place the function is proved too. Assumes nothing.
use mathlib.Core.Path.{sym, ap, ◌∙◌}
use native.Mathlib.Omega.{arith}
use Rattle.std.proofs.Common.{rules}
use Rattle.std.proofs.lemmas.Result.{err_from_is_err_and}
use Rattle.house_table.specs.House.{word_by}
use Rattle.lua51_deserializer.specs.Chunk.{walk}
use Rattle.judging.specs.Judge.{given}
use Rattle.judging.proofs.Judging.{count_whole, few_functions, judge_whole, turn_refused, turn_passed, functions_passed}
use Rattle.judging.proofs.judge_with.Goals as goal

pub overflow_cast-f-end : goal.overflow_cast-f-end
overflow_cast-f-end g c = omega (arith, few_functions c.requires.whole)

pub loop-f-init : goal.loop-f-init
loop-f-init g c = judge_whole c.requires.whole _

pub loop-f-preserved : goal.loop-f-preserved
loop-f-preserved g c =
    let l = c.loop-f in
    let a = c.args in
    let s = a.chunk.bytes.now in
    turn_passed (word_by a.inverse.now) s (walk s).places a.chunk.functions.now.count l.f-counter c.loop-f-test.true
    (λ fault x k. search rules) _ c.in_ok-map_err.was c.check_function.result (search rules) c.map_err.ensures.cases
    ∙ l.invariant

pub returns-in_err-map_err : goal.returns-in_err-map_err
returns-in_err-map_err g c =
    let l = c.loop-f in
    let a = c.args in
    let s = a.chunk.bytes.now in
    let r = err_from_is_err_and c.from_residual.result c.from_residual.ensures.1 in
    rw (r.1, r.2)
    (turn_refused (word_by a.inverse.now) s (walk s).places a.chunk.functions.now.count l.f-counter c.loop-f-test.true
    (λ fault x k. search rules) _ c.in_err-map_err.was c.check_function.result (search rules) c.map_err.ensures.cases
    ∙ l.invariant)

pub returns : goal.returns
returns g c =
    let l = c.loop-f in
    let s = c.args.chunk.bytes.now in
    let n = c.args.chunk.functions.now.count in
    ap given (sym (count_whole c.requires.whole))
    ∙ (sym (functions_passed (word_by c.args.inverse.now) s (walk s).places n l.f-counter c.loop-f-test.false) ∙ l.invariant)
