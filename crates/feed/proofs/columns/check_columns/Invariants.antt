use Rattle.std.proofs.Common.{◌≡◌, ◌+◌, ◌≤◌, drop, length}
use Rattle.values.specs.Reading.{with_front}
use Rattle.values.specs.Rose.{Roses, kids_of, roses_size}
use Rattle.array_layout.specs.Placing.{layouts_of, ranges_below}
use Rattle.array_layout.specs.Sound.{ArePlaced}
use Rattle.array_layout.specs.Typed.{AreTyped}
use Rattle.array_layout.specs.declared.array.ArrayData.{ArrayData}
use Rattle.dictionaries.specs.Table.{values_in}
use Rattle.schema_meta.specs.FieldLayouts.{slot_layouts_below}
use Rattle.schema_meta.specs.Parts.{arrays_of}
use Rattle.schema_meta.specs.Rows.{columns_in}
use Rattle.schema_meta.proofs.Places.{arrays_from}
use Rattle.feed.specs.Columns.{cells_in}
use Rattle.feed.proofs.GatherLemmas.{layouts_before}
use Rattle.feed.proofs.columns.check_columns.Given as goal

-- The columns so far, and those of the arrays whose buffers remain to be found, are the whole.
abbrev pub invariant-loop-field : goal.invariant-loop-field
invariant-loop-field l =
    let left : Roses ArrayData =
    arrays_from (values_in l.dicts) l.header.nodes l.header.ranges l.at.node l.at.range
    (kids_of (drop l.field-index l.fields)) in
    let whole : Roses ArrayData = arrays_of (values_in l.dicts) l.fields l.header in
    record {
      cells : with_front (cells_in l.columns.items) (columns_in l.body.value.items left)
          ≡ columns_in l.body.value.items whole;
      layouts : layouts_before l.columns.items (layouts_of left) ≡ layouts_of whole;
      placed : ArePlaced l.body.value.items left;
      typed : AreTyped left;
      nodes : l.at.node + roses_size (slot_layouts_below (kids_of (drop l.field-index l.fields)))
          ≤ length l.header.nodes;
      ranges : l.at.range + ranges_below (slot_layouts_below (kids_of (drop l.field-index l.fields)))
          ≤ length l.header.ranges;
    }
