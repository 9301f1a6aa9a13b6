use Rattle.std.proofs.Common.{◌≡◌, ◌++◌, drop}
use Rattle.std.specs.Prelude.{map}
use Rattle.body_writer.specs.Slots.{cells_of, part}
use Rattle.body_writer.proofs.from_values.buffers.parts.Given as goal

abbrev pub invariant-loop-cell : goal.invariant-loop-cell
invariant-loop-cell l = cells_of l.all.items
    ++ map (part l.j) (cells_of (drop l.cell-index l.cells)) ≡ map (part l.j) (cells_of l.cells)
