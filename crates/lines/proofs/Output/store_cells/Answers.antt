-- `store_cells` meets its contract. Assumes nothing.
use mathlib.Core.Path.{refl}
use Rattle.lines.proofs.Stores.{puts_stores}
use Rattle.std.proofs.Common.{rules}
use Rattle.lines.proofs.Output.store_cells.Goals as goal

pub returns : goal.returns
returns c =
    let o = c.args.self.now in
    record { same = refl; printed = puts_stores o.bytes.now o.at c.args.bytes (search rules) c.requires (search rules) }
