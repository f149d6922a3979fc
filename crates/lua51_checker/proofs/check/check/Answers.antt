-- `check::check`: 7 to 11, then 12 to 14, then 15. Assumes nothing.
use Prim.Native.Nat.{ℕ}
use mathlib.Core.Path.{sym, ap, ◌∙◌}
use lib.ListN.{length}
use Rattle.std.proofs.lemmas.Result.{err_from_is_err_and}
use Rattle.lua51_function.proofs.Standing.{standing, stands}
use Rattle.lua51_lifter.specs.Check.{first_refusal, line_verdict}
use Rattle.lua51_checker.proofs.Judging.{words_decide, uses_decide, lines_decide, found_refused}
use Rattle.lua51_checker.proofs.check.check.Goals as goal

pub returns-in_err-check_words-clause-result_value : goal.returns-in_err-check_words-clause-result_value
returns-in_err-check_words-clause-result_value c =
    let r = err_from_is_err_and c.from_residual.result c.from_residual.ensures.1 in
    λ p d h k l. rw (r.1, r.2) (words_decide p _ _ (c.in_err-check_words.ensures p d))

pub returns-in_err-check_words-clause-anyway : goal.returns-in_err-check_words-clause-anyway
returns-in_err-check_words-clause-anyway c =
    let s = c.args.subject.now in
    let r = err_from_is_err_and c.from_residual.result c.from_residual.ensures.1 in
    let p = standing s.head s.words.now s.kinds.now s.nested.now s.nups.now in
    rw (r.1, r.2)
    (found_refused p _ _ (c.in_err-check_words.ensures p (stands s.head s.words.now s.kinds.now s.nested.now s.nups.now)))

pub returns-in_err-check_uses-clause-result_value : goal.returns-in_err-check_uses-clause-result_value
returns-in_err-check_uses-clause-result_value c =
    let r = err_from_is_err_and c.from_residual-in_err-check_uses.result c.from_residual-in_err-check_uses.ensures.1 in
    λ p d h k l. rw (r.1, r.2)
    (let ok = c.in_ok-check_words.ensures p d in
    uses_decide p ok _ _ (c.in_err-check_uses.ensures.result_value p d.words d.nups (sym ok) k l))

pub returns-clause-result_value : goal.returns-clause-result_value
returns-clause-result_value c = λ p d h k l.
    let ok = c.in_ok-check_words.ensures p d in
    lines_decide p ok _ (c.in_ok-check_uses.ensures.result_value p d.words d.nups (sym ok) k l)
    (c.lines_verdict.ensures.result_value p h ∙ ap (λ (n : ℕ). first_refusal (line_verdict p) 0 n) (sym (ap length d.words)))
