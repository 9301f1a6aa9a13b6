use Rattle.body_writer.specs.Heavy.{AreLightUpTo, layouts_in}
use Rattle.body_writer.specs.RowRanges.{cells_in}
use Rattle.body_writer.proofs.weighing.heaviest_row.Given as goal

abbrev pub invariant-loop-index : goal.invariant-loop-index
invariant-loop-index l = AreLightUpTo (layouts_in l.columns) (cells_in l.columns) l.index l.most
