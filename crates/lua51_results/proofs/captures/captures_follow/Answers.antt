-- `captures::captures_follow`: each word is judged for itself. Assumes nothing.
use Rattle.std.proofs.Common.{rules, refl, ◌+◌, arith, sym, ◌∙◌}
use Rattle.std.proofs.lemmas.Iterator.{YieldsList-from_range}
use Rattle.std.proofs.lemmas.Iterator.Search.{all_from_yields_List}
use Rattle.std.proofs.lemmas.Bool.{lt-leb}
use Rattle.lua51_results.proofs.Capturing.{can_capture, captures_all, captures_few}
use Rattle.lua51_results.proofs.captures.captures_follow.Goals as goal

pub returns-then-count-saturating_sub : goal.returns-then-count-saturating_sub
returns-then-count-saturating_sub c =
    let a = c.args in
    all_from_yields_List (can_capture a.words.now a.leaders.now) _ _ c.all.result c.all.ensures.ran
    (YieldsList-from_range a.first (a.first + a.count) a.count refl (omega arith)) (λ x b q k. (search rules, search rules))
    ∙ captures_all a.words.now a.leaders.now a.count a.first (omega arith)

pub returns-else-count-saturating_sub : goal.returns-else-count-saturating_sub
returns-else-count-saturating_sub c =
    let a = c.args in
    lt-leb _ _ c.if-count-saturating_sub.false ∙ sym (captures_few a.words.now a.leaders.now a.count a.first (omega arith))
