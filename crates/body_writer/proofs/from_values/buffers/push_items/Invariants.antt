use Rattle.std.proofs.Common.{◌≡◌, ◌++◌, drop}
use Rattle.body_writer.specs.Slots.{cells_of}
use Rattle.body_writer.proofs.from_values.buffers.push_items.Given as goal

abbrev pub invariant-loop-item : goal.invariant-loop-item
invariant-loop-item l = cells_of l.all.items ++ drop l.item-index l.item-items ≡ cells_of l.fn.all.items ++ l.item-items
