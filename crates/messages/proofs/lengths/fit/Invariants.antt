use Rattle.std.proofs.Common.{◌≡◌, ◌+◌, drop}
use Rattle.values.specs.Rose.{kids_of, roses_size}
use Rattle.schema_meta.specs.FieldLayouts.{slot_layouts_below}
use Rattle.schema_meta.specs.Batch.{columns_fit}
use Rattle.messages.proofs.lengths.fit.Given as goal

abbrev pub invariant-loop-index : goal.invariant-loop-index
invariant-loop-index l =
    (columns_fit l.nodes l.next l.rows (slot_layouts_below (kids_of (drop l.index l.schema.fields.items))) ≡ columns_fit
    l.nodes 0 l.rows (slot_layouts_below (kids_of l.schema.fields.items)))
    × (l.next + roses_size (slot_layouts_below (kids_of (drop l.index l.schema.fields.items))) ≡ roses_size
    (slot_layouts_below (kids_of l.schema.fields.items)))
