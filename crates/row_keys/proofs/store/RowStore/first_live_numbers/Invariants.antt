use Rattle.std.proofs.Common.{◌-◌, ◌≤◌, length}
use Rattle.row_keys.proofs.FirstLive.{FirstListed}
use Rattle.row_keys.proofs.store.RowStore.first_live_numbers.Given as goal

abbrev pub invariant-loop-number : goal.invariant-loop-number
invariant-loop-number l = record {
  within : l.number ≤ length l.self.slots;
  listed : FirstListed l.self.slots l.most l.number l.numbers.items;
}

abbrev pub decreases-loop-number : goal.decreases-loop-number
decreases-loop-number l = length l.self.slots - l.number
