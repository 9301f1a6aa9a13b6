use Rattle.std.proofs.Common.{◌≡◌, ◌++◌, ◌-◌, ◌≤◌}
use Rattle.std.specs.Prelude.{map}
use Rattle.values.specs.Rose.{node, kids_of}
use Rattle.array_layout.specs.Cells.{cell}
use Rattle.body_writer.specs.Runs.{slots}
use Rattle.body_writer.specs.Texts.{as_bytes, bytes_cells}
use Rattle.body_writer.proofs.from_columns.encoded_texts.push_of_width.Given as goal

abbrev pub invariant-loop-i : goal.invariant-loop-i
invariant-loop-i l = record {
  past : l.range.from ≤ l.i;
  texts : bytes_cells l.texts.items
      ++ map as_bytes (slots (cell l.range.parts.body.now (node l.range.parts.own.now (kids_of l.range.parts.children.now))) l.i
      (l.range.to - l.i))
      ≡ bytes_cells l.fn.texts.items
      ++ map as_bytes (slots (cell l.range.parts.body.now (node l.range.parts.own.now (kids_of l.range.parts.children.now)))
      l.range.from (l.range.to - l.range.from));
}
