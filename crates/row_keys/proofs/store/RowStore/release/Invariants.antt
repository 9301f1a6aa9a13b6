use Rattle.row_keys.proofs.StoreStates.{IsLeft}
use Rattle.row_keys.proofs.store.RowStore.release.Given as goal

abbrev pub invariant-loop-number : goal.invariant-loop-number
invariant-loop-number l = IsLeft l.fn.self l.numbers l.number-index l.self
