use Rattle.std.proofs.Common.{◌≡◌, ◌+◌, ◌*◌, ◌≤◌, drop}
use Rattle.values.specs.Rose.{kids_of, roses_size}
use Rattle.array_layout.specs.Placing.{ranges_below}
use Rattle.schema_meta.specs.FieldLayouts.{slot_layouts_below}
use Rattle.schema_meta.proofs.shape.+ranges_of.Given as goal

abbrev pub decreases-ranges_of : goal.decreases-ranges_of
decreases-ranges_of l = roses_size (kids_of l.fields.now)

abbrev pub invariant-loop-field : goal.invariant-loop-field
invariant-loop-field l =
    (l.ranges + ranges_below (slot_layouts_below (kids_of (drop l.field-index l.fields))) ≡ ranges_below
    (slot_layouts_below (kids_of l.fields)))
    × (l.ranges + 3 * roses_size (kids_of (drop l.field-index l.fields)) ≤ 3 * roses_size (kids_of l.fields))
