use Rattle.std.proofs.Common.{◌≡◌, ◌++◌, ◌-◌, ◌≤◌}
use Rattle.values.specs.Rose.{node, kids_of}
use Rattle.array_layout.specs.Cells.{cell}
use Rattle.body_writer.specs.Slots.{cells_of}
use Rattle.body_writer.specs.Runs.{slots}
use Rattle.body_writer.proofs.from_columns.encoded.push_found.Given as goal

abbrev pub invariant-loop-i : goal.invariant-loop-i
invariant-loop-i l = record {
  past : l.range.from ≤ l.i;
  cells : cells_of l.cells.items
      ++ slots (cell l.range.parts.body.now (node l.range.parts.own.now (kids_of l.range.parts.children.now))) l.i
      (l.range.to - l.i)
      ≡ cells_of l.fn.cells.items
      ++ slots (cell l.range.parts.body.now (node l.range.parts.own.now (kids_of l.range.parts.children.now)))
      l.range.from (l.range.to - l.range.from);
}
