use Rattle.std.proofs.Common.{◌≡◌, ◌+◌, ◌*◌, drop}
use Rattle.view_lang.specs.Filter.{filter_size, parts_of, parts_size}
use Rattle.view_config.proofs.filters.+room.Given as goal

abbrev pub decreases-room_after : goal.decreases-room_after
decreases-room_after l = 2 * filter_size l.filter.now

abbrev pub decreases-room_after_all : goal.decreases-room_after_all
decreases-room_after_all l = 2 * parts_size (parts_of l.filters.now) + 1

-- what is left, and all filters, are the room and the filters still to be counted
abbrev pub invariant-room_after_all-loop-filter : goal.invariant-room_after_all-loop-filter
invariant-room_after_all-loop-filter l =
    l.left + parts_size (parts_of l.filters) ≡ l.fn.room + parts_size (parts_of (drop l.filter-index l.filters))
