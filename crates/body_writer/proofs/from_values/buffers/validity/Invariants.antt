use Rattle.std.proofs.Common.{◌≡◌, ◌++◌, drop}
use Rattle.std.specs.Prelude.{map}
use Rattle.body_writer.specs.Slots.{is_valid}
use Rattle.body_writer.proofs.from_values.buffers.validity.Given as goal

abbrev pub invariant-loop-cell : goal.invariant-loop-cell
invariant-loop-cell g l =
    l.bits ++ map is_valid (map g.C.Cell.datum (drop l.cell-index l.cells)) ≡ map is_valid (map g.C.Cell.datum l.cells)
