use Rattle.std.proofs.Common.{All, List, ℕ, ap, subst, ◌∙◌}
use Rattle.values.specs.Layouts.{Holds}
use Rattle.array_layout.specs.Cells.{cells}
use Rattle.array_layout.specs.Placing.{layout_of}
use Rattle.arrays.specs.Checked.{CheckedColumn, valid_of}
use Rattle.arrays.proofs.column.Column.law.Goals as goal

pub returns : goal.returns
returns c =
    let P : List ℕ → Type 0 = λ b.
    All (λ d. Holds (layout_of c.self.inside.root) d) (valid_of (cells b c.self.inside.root)) in
    let Q : CheckedColumn → Type 0 = λ x. All (λ d. Holds x.layouts d) x.cells in
    subst Q c.self.view_is
    (subst P (c.deref-2.ensures.value ∙ ap (λ v. v.items) c.deref.ensures) c.cells_law.ensures)
