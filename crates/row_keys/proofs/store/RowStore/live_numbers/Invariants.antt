use Rattle.std.proofs.Common.{◌-◌, ◌≤◌, length}
use Rattle.row_keys.proofs.ListedNumbers.{Listed}
use Rattle.row_keys.proofs.store.RowStore.live_numbers.Given as goal

abbrev pub invariant-loop-number : goal.invariant-loop-number
invariant-loop-number l = record {
  within : l.number ≤ length l.self.slots;
  listed : Listed l.self.slots l.number l.numbers.items;
}

abbrev pub decreases-loop-number : goal.decreases-loop-number
decreases-loop-number l = length l.self.slots - l.number
