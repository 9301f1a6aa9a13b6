use Rattle.std.proofs.Common.{ap, not, ◌∙◌}
use Rattle.values.specs.CellViews.{viewed}
use Rattle.view_lang.specs.Cells.{cell_at}
use Rattle.upkeep.proofs.SameCells.{seen_same}
use Rattle.upkeep.proofs.alike.differs.Goals as goal

pub returns : goal.returns
returns g c =
    ap not
    (c.is_same_cell.ensures
    ∙ seen_same (viewed c.cell.result) (viewed c.cell-2.result) (cell_at (g.R.RowView.cells c.args.a.now) c.args.column)
    (cell_at (g.R.RowView.cells c.args.b.now) c.args.column) c.cell.ensures c.cell-2.ensures)
