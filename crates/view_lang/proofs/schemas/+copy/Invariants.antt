use Rattle.std.proofs.Common.{◌≡◌, ◌+◌, ◌*◌, take}
use Rattle.values.specs.Rose.{kids_of, rose_size, roses_size}
use Rattle.view_lang.proofs.schemas.+copy.Given as goal

abbrev pub decreases-copy_as : goal.decreases-copy_as
decreases-copy_as l = 2 * rose_size l.field.now

abbrev pub decreases-copy_fields : goal.decreases-copy_fields
decreases-copy_fields l = 2 * roses_size (kids_of l.fields.now) + 1

abbrev pub invariant-copy_fields-loop-field : goal.invariant-copy_fields-loop-field
invariant-copy_fields-loop-field l = l.copies.items ≡ take l.field-index l.fields
