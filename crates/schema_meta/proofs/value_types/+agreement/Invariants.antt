use Rattle.std.proofs.Common.{◌≡◌, ◌+◌, ◌*◌, drop}
use Rattle.values.specs.Rose.{kids_of, rose_size, roses_size}
use Rattle.schema_meta.specs.Dictionaries.{agree, value_type}
use Rattle.schema_meta.proofs.value_types.+agreement.Given as goal

abbrev pub decreases-agrees : goal.decreases-agrees
decreases-agrees l = 2 * rose_size l.field.now

abbrev pub decreases-agree : goal.decreases-agree
decreases-agree l = 2 * roses_size (kids_of l.fields.now) + 1

abbrev pub invariant-agree-loop-field : goal.invariant-agree-loop-field
invariant-agree-loop-field l =
    agree (value_type l.all) (kids_of (drop l.field-index l.fields)) ≡ agree (value_type l.all) (kids_of l.fields)
