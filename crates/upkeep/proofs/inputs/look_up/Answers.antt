use Rattle.std.proofs.Common.{◌+◌, add-one}
use Rattle.values.specs.CellViews.{viewed}
use Rattle.upkeep.proofs.InputRows.{look_row, look_side}
use Rattle.upkeep.proofs.inputs.look_up.Goals as goal

pub row_with_key-requires : goal.row_with_key-requires
row_with_key-requires g c =
    look_side c.args.stores.now c.args.lookup c.in-Some.lookup (c.in-Some.lookup.side + 1) c.index-stores-lookup.result
    c.requires c.in-Some.is (add-one c.in-Some.lookup.side) c.index-stores-lookup.is

pub returns : goal.returns
returns g c =
    look_row c.args.stores.now c.args.lookup c.in-Some.lookup (c.in-Some.lookup.side + 1) c.index-stores-lookup.result
    (g.R.RowView.cells c.args.row.now) (viewed c.cell.result) c.row_with_key.result c.requires c.in-Some.is
    (add-one c.in-Some.lookup.side) c.index-stores-lookup.is c.cell.ensures c.row_with_key.ensures.row
