-- `cells` meets its contract: six cells and a digit. Assumes nothing.
use mathlib.Core.Path.{refl, ◌∙◌}
use mathlib.Core.List.{[], ◌∷◌}
use Prim.Native.Nat.{◌%◌}
use Rattle.lines.specs.Line.{digit}
use Rattle.lines.proofs.Columns.{column_cells}
use Rattle.lines.proofs.cells.Goals as goal

pub returns : goal.returns
returns c =
    let n = c.args.n in
    (λ i. c.cell_of.ensures i ∷ c.cell_of-2.ensures i ∷ c.cell_of-3.ensures i ∷ c.cell_of-4.ensures i
    ∷ c.cell_of-5.ensures i ∷ c.cell_of-6.ensures i ∷ digit (n % 10) ∷ [])
    ∙ column_cells n _ _ _ _ _ _ c.requires refl refl refl refl refl refl
