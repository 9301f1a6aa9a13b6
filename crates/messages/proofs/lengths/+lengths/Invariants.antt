use Rattle.std.proofs.Common.{◌≡◌, ◌+◌, ◌*◌, drop}
use Rattle.values.specs.Rose.{kids_of, rose_size, roses_size}
use Rattle.schema_meta.specs.FieldLayouts.{slot_layouts_below}
use Rattle.schema_meta.specs.Batch.{are_long}
use Rattle.messages.proofs.lengths.+lengths.Given as goal

abbrev pub decreases-skip_field : goal.decreases-skip_field
decreases-skip_field l = 2 * rose_size l.field.now

abbrev pub decreases-skip_fields : goal.decreases-skip_fields
decreases-skip_fields l = 2 * roses_size (kids_of l.fields.now) + 1

abbrev pub invariant-skip_fields-loop-field : goal.invariant-skip_fields-loop-field
invariant-skip_fields-loop-field l =
    (are_long l.nodes l.next l.floor (slot_layouts_below (kids_of (drop l.field-index l.fields))) ≡ are_long l.nodes
    l.fn.index l.floor (slot_layouts_below (kids_of l.fields)))
    × (l.next + roses_size (slot_layouts_below (kids_of (drop l.field-index l.fields))) ≡ l.fn.index + roses_size
    (slot_layouts_below (kids_of l.fields)))
