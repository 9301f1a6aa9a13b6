use Rattle.std.proofs.Common.{◌≡◌, ◌≤◌, length}
use Rattle.row_keys.specs.Numbers.{CanRevive, revived}
use Rattle.row_keys.proofs.LastRows.{from}
use Rattle.row_keys.proofs.turning.revive_from.Given as goal

abbrev pub invariant-loop-left : goal.invariant-loop-left
invariant-loop-left l = (l.rows ≡ revived (from l.left (length l.fn.rows)) l.fn.rows) × (l.left ≤ length l.fn.rows)
    × (l.first ≤ l.left) × CanRevive (from l.first (length l.fn.rows)) l.fn.rows

abbrev pub decreases-loop-left : goal.decreases-loop-left
decreases-loop-left l = l.left
