use Rattle.std.proofs.Common.{◌≡◌, ◌++◌, drop}
use Rattle.std.specs.Prelude.{map}
use Rattle.body_writer.specs.Columns.{fixed}
use Rattle.body_writer.proofs.from_values.buffers.push_all_fixed.Given as goal

abbrev pub invariant-loop-cell : goal.invariant-loop-cell
invariant-loop-cell g l =
    l.buffer.items ++ fixed l.width (map g.C.Cell.datum (drop l.cell-index l.cells))
    ≡ l.fn.buffer.items ++ fixed l.width (map g.C.Cell.datum l.cells)
