use Rattle.std.proofs.Common.{◌∙◌, ap}
use Rattle.arrays.proofs.ColumnCells.{cell-copied}
use Rattle.arrays.proofs.column.Column.cell.Goals as goal

pub returns-clause-value : goal.returns-clause-value
returns-clause-value c =
    cell-copied c.read_cell.result _ _ c.self.inside.root c.args.self.now.cells c.args.i (c.deref-2.ensures.value
    ∙ ap (λ v. v.items) c.deref.ensures)
    (ap (λ x. x.cells) c.self.view_is) c.self.invariant.1 c.requires c.read_cell.ensures.value
