use Rattle.std.proofs.Common.{◌≡◌, ◌+◌, ◌<◌, ◌≤◌, ◌++◌, drop, take}
use Rattle.row_keys.proofs.stored_rows.replace.Given as goal

abbrev pub invariant-loop-last : goal.invariant-loop-last
invariant-loop-last l =
    (l.chunks.items ≡ take (l.last + 1) l.fn.chunks.items ++ drop l.to l.fn.chunks.items) × (l.from ≤ l.last)
    × (l.last < l.to)

abbrev pub decreases-loop-last : goal.decreases-loop-last
decreases-loop-last l = l.last
