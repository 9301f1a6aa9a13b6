use Rattle.std.proofs.Common.{◌≡◌, take}
use Rattle.group_state.specs.Keys.{tuple_cmp}
use Rattle.top_rows.specs.Ties.{KeepsBy, without}
use Rattle.group_order.specs.Ranked.{IsRanked, placed_at}
use Rattle.group_order.proofs.ranked.RankedGroups.take_all.Given as goal

abbrev pub invariant-loop-tuple : goal.invariant-loop-tuple
invariant-loop-tuple l =
    (l.self.groups ≡ l.fn.self.groups)
    × ((l.self.ranking ≡ l.fn.self.ranking)
    × (IsRanked l.fn.self → KeepsBy tuple_cmp l.fn.self.ranking.order l.self.entries
    (without tuple_cmp (take l.tuple-index l.tuples) (placed_at l.fn.self.ranking l.fn.self.groups))))
