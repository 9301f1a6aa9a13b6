use Rattle.std.proofs.Common.{◌≡◌, map, take}
use Rattle.values.specs.Keys.{datum_of_key}
use Rattle.row_keys.specs.Slots.{keys_at}
use Rattle.row_keys.proofs.store.RowStore.keys_of.Given as goal

abbrev pub invariant-loop-number : goal.invariant-loop-number
invariant-loop-number l =
    map datum_of_key l.keys.items ≡ keys_at l.self.table (take l.number-index l.numbers) l.self.slots
