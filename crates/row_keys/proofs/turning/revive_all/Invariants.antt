use Rattle.std.proofs.Common.{◌≡◌, ◌≤◌, drop, length}
use Rattle.row_keys.specs.Numbers.{CanRevive, revived}
use Rattle.row_keys.proofs.turning.revive_all.Given as goal

abbrev pub invariant-loop-left : goal.invariant-loop-left
invariant-loop-left l = (l.rows ≡ revived (drop l.left l.numbers) l.fn.rows) × (l.left ≤ length l.numbers)
    × CanRevive l.numbers l.fn.rows

abbrev pub decreases-loop-left : goal.decreases-loop-left
decreases-loop-left l = l.left
