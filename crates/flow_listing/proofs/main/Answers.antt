-- `main`: before the loop nothing is printed. Assumes nothing.
use mathlib.Core.Path.{refl}
use Rattle.flow_listing.proofs.Pieces.{reached_none}
use Rattle.flow_listing.proofs.main.Goals as goal

pub loop-k-init : goal.loop-k-init
loop-k-init c =
    let judged = c.walk_and_judge-judged.ensures in
    rw c.into_iter-k-iterator.ensures.into_iter_gives (reached_none _ _ _ _ c.lua.ensures judged.answer judged.places, refl, refl)
