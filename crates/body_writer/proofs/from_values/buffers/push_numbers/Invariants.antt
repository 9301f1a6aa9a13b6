use Rattle.std.proofs.Common.{◌≡◌, ◌++◌, drop}
use Rattle.std.specs.Prelude.{map}
use Rattle.body_writer.specs.Columns.{numbers}
use Rattle.body_writer.proofs.from_values.buffers.push_numbers.Given as goal

abbrev pub invariant-loop-cell : goal.invariant-loop-cell
invariant-loop-cell g l =
    l.buffer.items ++ numbers l.width (map g.C.Cell.datum (drop l.cell-index l.cells))
    ≡ l.fn.buffer.items ++ numbers l.width (map g.C.Cell.datum l.cells)
