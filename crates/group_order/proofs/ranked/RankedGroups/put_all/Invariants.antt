use Rattle.std.proofs.Common.{◌≡◌, take}
use Rattle.std.specs.Prelude.{List, Option}
use Rattle.values.specs.Datum.{Datum}
use Rattle.values.specs.declared.key.Key.{Key}
use Rattle.group_state.specs.Keys.{tuple_cmp}
use Rattle.top_rows.specs.Ties.{KeepsBy, pick, without}
use Rattle.group_order.specs.Ranked.{placed_at}
use Rattle.group_order.proofs.ranked.RankedGroups.put_all.Given as goal

abbrev pub invariant-loop-tuple : goal.invariant-loop-tuple
invariant-loop-tuple l =
    (l.self.groups ≡ l.fn.self.groups)
    × ((l.self.ranking ≡ l.fn.self.ranking)
    × ((before : List Key → Option (List Datum))
    → KeepsBy tuple_cmp l.fn.self.ranking.order l.fn.self.entries (without tuple_cmp l.tuples before)
    → KeepsBy tuple_cmp l.fn.self.ranking.order l.self.entries
    (pick tuple_cmp (take l.tuple-index l.tuples) (placed_at l.fn.self.ranking l.fn.self.groups)
    (without tuple_cmp l.tuples before))))
