use Rattle.std.proofs.Common.{◌≡◌, take}
use Rattle.row_keys.specs.Slots.{keys_at}
use Rattle.row_keys.proofs.store.RowStore.key_cells.Given as goal

abbrev pub invariant-loop-number : goal.invariant-loop-number
invariant-loop-number l =
    l.cells.items ≡ keys_at l.self.table (take l.number-index l.numbers) l.self.slots
