use Rattle.std.proofs.Common.{◌≡◌, ◌+◌, ◌≤◌, drop}
use Rattle.std.specs.Prelude.{map}
use Rattle.body_writer.specs.Slots.{null_count}
use Rattle.body_writer.proofs.from_values.buffers.count_nulls.Given as goal

abbrev pub invariant-loop-cell : goal.invariant-loop-cell
invariant-loop-cell g l = record {
  nulls : l.nulls + null_count (map g.C.Cell.datum (drop l.cell-index l.cells))
      ≡ null_count (map g.C.Cell.datum l.cells);
  bound : l.nulls ≤ l.cell-index;
}
