use Rattle.std.proofs.Common.{◌≡◌, ◌++◌, drop}
use Rattle.body_writer.specs.Slots.{cells_of}
use Rattle.body_writer.specs.Columns.{items}
use Rattle.body_writer.proofs.from_values.buffers.items.Given as goal

abbrev pub invariant-loop-cell : goal.invariant-loop-cell
invariant-loop-cell l = cells_of l.all.items ++ items (cells_of (drop l.cell-index l.cells)) ≡ items (cells_of l.cells)
