use Rattle.std.proofs.Common.{◌≡◌, ◌+◌, ◌*◌, map, take}
use Rattle.values.specs.Rose.{kids_of, rose_size, roses_size}
use Rattle.schema_meta.specs.Logical.{named_field}
use Rattle.schema_meta.proofs.field.+named.Given as goal

abbrev pub decreases-named_field : goal.decreases-named_field
decreases-named_field l = 2 * rose_size l.field.now

abbrev pub decreases-named_fields : goal.decreases-named_fields
decreases-named_fields l = 2 * roses_size (kids_of l.fields.now) + 1

abbrev pub invariant-named_fields-loop-field : goal.invariant-named_fields-loop-field
invariant-named_fields-loop-field l = l.named.items ≡ map named_field (take l.field-index l.fields)
