use Rattle.std.proofs.Common.{◌≡◌, ◌+◌, ◌*◌, drop}
use Rattle.values.specs.Rose.{kids_of, rose_size, roses_size}
use Rattle.schema_meta.specs.Dictionaries.{type_below}
use Rattle.schema_meta.proofs.value_types.+types.Given as goal

abbrev pub decreases-type_in : goal.decreases-type_in
decreases-type_in l = 2 * rose_size l.field.now

abbrev pub decreases-type_below : goal.decreases-type_below
decreases-type_below l = 2 * roses_size (kids_of l.fields.now) + 1

abbrev pub invariant-type_below-loop-field : goal.invariant-type_below-loop-field
invariant-type_below-loop-field l =
    type_below l.id (kids_of (drop l.field-index l.fields)) ≡ type_below l.id (kids_of l.fields)
