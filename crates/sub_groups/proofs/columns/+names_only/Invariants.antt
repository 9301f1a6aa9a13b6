use Rattle.std.proofs.Common.{◌≡◌, ◌+◌, ◌*◌, drop}
use Rattle.view_lang.specs.Filter.{filter_size, parts_of, parts_size}
use Rattle.sub_groups.specs.FilterParts.{has, name_only}
use Rattle.sub_groups.proofs.columns.+names_only.Given as goal

abbrev pub decreases-names_only : goal.decreases-names_only
decreases-names_only l = 2 * filter_size l.filter.now

abbrev pub decreases-name_only : goal.decreases-name_only
decreases-name_only l = 2 * parts_size (parts_of l.parts.now) + 1

abbrev pub invariant-name_only-loop-part : goal.invariant-name_only-loop-part
invariant-name_only-loop-part l =
    name_only (has l.columns) (parts_of (drop l.part-index l.parts)) ≡ name_only (has l.columns) (parts_of l.parts)
