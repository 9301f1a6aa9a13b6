use Rattle.std.proofs.Common.{◌≡◌, ◌+◌, ◌-◌, ◌*◌, ◌<◌}
use Rattle.values.specs.Reading.{each, with_front}
use Rattle.schema_meta.specs.Fields.{entry_by, forest}
use Rattle.schema_meta.proofs.fields.+fields.Given as goal

abbrev pub decreases-read_fields : goal.decreases-read_fields
decreases-read_fields l = 4 * l.depth

abbrev pub decreases-read_entry : goal.decreases-read_entry
decreases-read_entry l = 4 * l.depth + 3

abbrev pub decreases-read_field : goal.decreases-read_field
decreases-read_field l = 4 * l.depth + 2

abbrev pub decreases-read_children : goal.decreases-read_children
decreases-read_children l = 4 * l.depth + 1

-- what was read, and what remains to be read, are the whole
abbrev pub invariant-read_fields-loop-index : goal.invariant-read_fields-loop-index
invariant-read_fields-loop-index l =
    (with_front l.fields.items (each (entry_by (forest (l.depth - 1)) l.vector) l.index (l.vector.count - l.index))
    ≡ forest l.depth l.vector) × (0 < l.depth)
