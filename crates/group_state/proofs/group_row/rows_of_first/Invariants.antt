use Rattle.std.proofs.Common.{◌≡◌, ◌≤◌, length, map, take}
use Rattle.group_state.specs.Aggregates.{seen_row}
use Rattle.group_state.proofs.group_row.rows_of_first.Given as goal

abbrev pub invariant-loop-tuple : goal.invariant-loop-tuple
invariant-loop-tuple l =
    (length l.made.items ≡ length l.yielded)
    × ((length l.yielded ≤ l.most)
    × (l.made.items ≡ map (seen_row l.columns l.outputs) (take (length l.yielded) l.groups.entries)))
