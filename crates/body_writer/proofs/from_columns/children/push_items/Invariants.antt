use Rattle.std.proofs.Common.{◌≡◌, ◌++◌, ◌-◌, ◌≤◌, All}
use Rattle.std.specs.List.{flat_map}
use Rattle.body_writer.specs.Slots.{items_in}
use Rattle.values.specs.Rose.{Rose, node, kids_of}
use Rattle.values.specs.declared.layout.Layout.{Layout}
use Rattle.array_layout.specs.declared.array.ArrayData.{ArrayData}
use Rattle.array_layout.specs.Cells.{cell}
use Rattle.body_writer.specs.Runs.{slots}
use Rattle.body_writer.specs.Segments.{segments_cells, ChildLies, LiesAs}
use Rattle.body_writer.proofs.from_columns.children.push_items.Given as goal

abbrev pub invariant-loop-at : goal.invariant-loop-at
invariant-loop-at l = record {
  past : l.range.from ≤ l.at;
  order : l.at ≤ l.range.to;
  cells : segments_cells l.all.items
      ++ flat_map items_in (slots (cell l.range.parts.body.now (node l.range.parts.own.now (kids_of
      l.range.parts.children.now))) l.at (l.range.to - l.at))
      ≡ segments_cells l.fn.all.items
      ++ flat_map items_in (slots (cell l.range.parts.body.now (node l.range.parts.own.now (kids_of
      l.range.parts.children.now))) l.range.from (l.range.to - l.range.from));
  lies : (t : Rose Layout) (m : Rose ArrayData) → ChildLies t m 0 l.range → All (LiesAs t m) l.fn.all.items
      → All (LiesAs t m) l.all.items;
}

abbrev pub decreases-loop-at : goal.decreases-loop-at
decreases-loop-at l = l.range.to - l.at
