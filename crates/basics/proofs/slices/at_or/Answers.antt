-- `at_or` meets its contract. The check finds this alone; it is written out so that an edit is refused by the index that is read.
-- Assumes nothing.
use Prim.Native.Nat.{ℕ}
use mathlib.Core.List.{List}
use mathlib.Core.Path.{◌≡◌, ◌∙◌, ap}
use Rattle.std.specs.Option.{IfSome, option_copied, unwrap_or}
use Rattle.std.specs.Prelude.{Option, Some, None, is_some}
use Rattle.std.proofs.Common.{arith}
use Rattle.std.proofs.lemmas.Grind.{common_steps}
use lib.Dec.{ltb}
use lib.ListN.{length, get_or}
use denote.Ref.{Bor}
use Rattle.basics.proofs.slices.at_or.Goals as goal

read_or : {T : Type 0} (items : List T) (i : ℕ) (other : T) (r : Option (Bor T)) → is_some r ≡ ltb i (length items)
    → IfSome r (λ x. x.now ≡ get_or items i x.now) → unwrap_or (option_copied r) other ≡ get_or items i other
read_or items i other (Some x) inside read = grind (arith, common_steps)
read_or items i other None inside read = grind (arith, common_steps)

pub returns : goal.returns
returns g c =
    c.unwrap_or.ensures ∙ ap (λ o. unwrap_or o c.args.other) c.copied.ensures
    ∙ read_or c.args.items.now c.args.i c.args.other c.get.result c.get.ensures.lookup.0 c.get.ensures.lookup.1
