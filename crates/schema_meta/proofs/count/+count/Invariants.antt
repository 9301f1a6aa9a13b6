use Rattle.std.proofs.Common.{◌≡◌, ◌+◌, ◌-◌, ◌*◌, ◌<◌}
use Rattle.schema_meta.specs.Totals.{sum_from, total, total_at}
use Rattle.schema_meta.proofs.count.+count.Given as goal

abbrev pub decreases-count : goal.decreases-count
decreases-count l = 2 * l.depth

abbrev pub decreases-count_below : goal.decreases-count_below
decreases-count_below l = 2 * l.depth + 1

-- what remains, and all there is, are the room and what is still to be counted
abbrev pub invariant-count-loop-index : goal.invariant-count-loop-index
invariant-count-loop-index l =
    (l.left + total l.depth l.vector ≡ l.fn.room + sum_from (total_at (total (l.depth - 1)) l.vector) l.index
    (l.vector.count - l.index))
    × (0 < l.depth)
