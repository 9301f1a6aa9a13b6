use Rattle.std.proofs.Common.{◌≡◌, ◌+◌, ◌*◌, drop}
use Rattle.toml.specs.View.{items_view}
use Rattle.values.specs.Reading.{with_front}
use Rattle.view_config.specs.Filters.{filter_of}
use Rattle.view_config.specs.Tree.{each_item}
use Rattle.view_config.proofs.filters.+filters.Given as goal

abbrev pub decreases-read_filter : goal.decreases-read_filter
decreases-read_filter l = 6 * l.depth

abbrev pub decreases-read_filter_with : goal.decreases-read_filter_with
decreases-read_filter_with l = 6 * l.depth + 5

abbrev pub decreases-read_filter_by : goal.decreases-read_filter_by
decreases-read_filter_by l = 6 * l.depth + 4

abbrev pub decreases-read_negation : goal.decreases-read_negation
decreases-read_negation l = 6 * l.depth + 3

abbrev pub decreases-read_parts : goal.decreases-read_parts
decreases-read_parts l = 6 * l.depth + 3

abbrev pub decreases-read_each_part : goal.decreases-read_each_part
decreases-read_each_part l = 6 * l.depth + 2

-- what was read, and what is left to read, are the whole
abbrev pub invariant-read_each_part-loop-value : goal.invariant-read_each_part-loop-value
invariant-read_each_part-loop-value l =
    with_front l.parts.items (each_item (filter_of l.depth l.scope) (items_view (drop l.value-index l.values)))
    ≡ each_item (filter_of l.depth l.scope) (items_view l.values)
