use Rattle.std.proofs.Common.{◌≡◌}
use Rattle.row_keys.proofs.store.RowStore.renew_all.Given as goal

abbrev pub invariant-loop-number : goal.invariant-loop-number
invariant-loop-number l = l.self ≡ l.fn.self
