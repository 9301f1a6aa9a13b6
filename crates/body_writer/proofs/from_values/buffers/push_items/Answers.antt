use Rattle.std.proofs.Common.{rules}
use Rattle.body_writer.specs.Slots.{cell_of, cells_of}
use Rattle.body_writer.proofs.Cells.{items-read}
use Rattle.body_writer.proofs.from_values.buffers.push_items.Goals as goal

pub returns-after-loop-item : goal.returns-after-loop-item
returns-after-loop-item c =
    items-read (cell_of c.args.cell) c.in-List.items.items c.deref-item-items.result.now
    (cells_of c.loop-item.all.items) (cells_of c.args.all.now.items)
    c.loop-item.item-index (search rules) c.deref-item-items.ensures.value c.loop-item-test.false c.loop-item.invariant
