use Rattle.std.proofs.Common.{◌≡◌, ◌+◌, ◌*◌, take}
use Rattle.values.specs.Datum.{datum_size, items_size, items_of}
use Rattle.values.proofs.cells.+copy.Given as goal

abbrev pub decreases-Value::copy : goal.decreases-Value::copy
decreases-Value::copy l = 2 * datum_size l.self.now

abbrev pub decreases-copy_row : goal.decreases-copy_row
decreases-copy_row l = 2 * items_size (items_of l.row.now) + 1

abbrev pub invariant-copy_row-loop-value : goal.invariant-copy_row-loop-value
invariant-copy_row-loop-value l = l.copies.items ≡ take l.value-index l.row
