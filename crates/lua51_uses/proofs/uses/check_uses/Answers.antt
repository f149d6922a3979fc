-- `uses::check_uses`: 12 to 14, once 7 to 11 are passed. Assumes nothing.
use lib.ListN.{length}
use Rattle.lua51_reach.proofs.Marking.{reached_marked}
use Rattle.lua51_uses.proofs.Using.{ends_right, all_land, leaders_marked}
use Rattle.lua51_uses.proofs.uses.check_uses.Goals as goal

pub returns-clause-result_value : goal.returns-clause-result_value
returns-clause-result_value c =
    let a = c.args in
    λ p e g ok h k.
    c.uses_verdict.ensures.result_value p (record {
      words = e;
      nups = g;
      last = ends_right p ok;
      leaders = leaders_marked p _ (length a.leaders.now) h (c.mark_leaders.ensures p e);
      targets = reached_marked p (all_land p ok) _ _ (c.mark_reached.ensures p e) k;
    })
