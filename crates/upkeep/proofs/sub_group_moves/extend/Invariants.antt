use Rattle.std.proofs.Common.{◌≡◌, ◌++◌}
use Rattle.upkeep.proofs.sub_group_moves.extend.Given as goal

abbrev pub invariant-loop-cell : goal.invariant-loop-cell
invariant-loop-cell l = l.row.items ≡ l.fn.row.items ++ l.yielded
