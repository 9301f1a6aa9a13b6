use Rattle.std.specs.Prelude.{map}
use Rattle.values.specs.CellViews.{viewed}
use Rattle.values.specs.Rose.{node, none}
use Rattle.body_writer.proofs.Cells.{few-cells}
use Rattle.body_writer.proofs.WeightLemmas.{total-short}
use Rattle.body_writer.proofs.from_values.column.write_column_from_cells.Goals as goal

pub write_own-requires-clause-few : goal.write_own-requires-clause-few
write_own-requires-clause-few c =
    few-cells viewed (node c.args.layout none) c.args.cells.now c.requires.light

pub write_own-requires-clause-short : goal.write_own-requires-clause-short
write_own-requires-clause-short c =
    total-short (node c.args.layout none) (map viewed c.args.cells.now) c.requires.layouts c.requires.held
    c.requires.light
