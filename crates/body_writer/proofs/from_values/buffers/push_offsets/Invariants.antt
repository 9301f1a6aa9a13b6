use Rattle.std.proofs.Common.{◌≡◌, ◌++◌, ◌+◌, drop}
use Rattle.std.specs.Prelude.{map}
use Rattle.body_writer.specs.Slots.{total_length, length_in}
use Rattle.body_writer.specs.Columns.{offsets, offsets_from}
use Rattle.body_writer.proofs.from_values.buffers.push_offsets.Given as goal

abbrev pub invariant-loop-cell : goal.invariant-loop-cell
invariant-loop-cell g l = record {
  end : l.end + total_length (map g.C.Cell.datum (drop l.cell-index l.cells))
      ≡ total_length (map g.C.Cell.datum l.cells);
  bytes : l.buffer.items
      ++ offsets_from l.width l.end (map length_in (map g.C.Cell.datum (drop l.cell-index l.cells)))
      ≡ l.fn.buffer.items ++ offsets l.width (map g.C.Cell.datum l.cells);
}
