use Rattle.std.proofs.Common.{◌-◌, length}
use Rattle.row_keys.proofs.GatheredRows.{IsPushed}
use Rattle.row_keys.proofs.rewriting.push_ranges.Given as goal

abbrev pub invariant-loop-at : goal.invariant-loop-at
invariant-loop-at l = IsPushed l.batch l.gone l.from l.fn.ranges.items l.at l.ranges.items

abbrev pub decreases-loop-at : goal.decreases-loop-at
decreases-loop-at l = length l.gone - l.at
