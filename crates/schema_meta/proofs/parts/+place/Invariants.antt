use Rattle.std.proofs.Common.{◌≡◌, ◌+◌, ◌*◌, drop}
use Rattle.values.specs.Rose.{join, kids_of, rose_size, roses_size}
use Rattle.array_layout.specs.Placing.{ranges_below}
use Rattle.dictionaries.specs.Table.{values_in}
use Rattle.schema_meta.specs.FieldLayouts.{slot_layouts_below}
use Rattle.schema_meta.proofs.Places.{arrays_from}
use Rattle.schema_meta.proofs.parts.+place.Given as goal

abbrev pub decreases-place : goal.decreases-place
decreases-place l = 2 * rose_size l.field.now

abbrev pub decreases-place_all : goal.decreases-place_all
decreases-place_all l = 2 * roses_size (kids_of l.fields.now) + 1

-- what was found, and what remains to be found, are the whole
abbrev pub invariant-place_all-loop-field : goal.invariant-place_all-loop-field
invariant-place_all-loop-field l =
    (join l.arrays.items
    (arrays_from (values_in l.dicts) l.nodes l.ranges l.at.node l.at.range (kids_of (drop l.field-index l.fields)))
    ≡ arrays_from (values_in l.dicts) l.nodes l.ranges l.initial.at.node l.initial.at.range (kids_of l.fields))
    × (l.at.node + roses_size (slot_layouts_below (kids_of (drop l.field-index l.fields)))
    ≡ l.initial.at.node + roses_size (slot_layouts_below (kids_of l.fields)))
    × (l.at.range + ranges_below (slot_layouts_below (kids_of (drop l.field-index l.fields)))
    ≡ l.initial.at.range + ranges_below (slot_layouts_below (kids_of l.fields)))
