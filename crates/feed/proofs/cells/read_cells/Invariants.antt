use Rattle.std.proofs.Common.{◌≡◌, All, length, take}
use Rattle.values.specs.Layouts.{Holds}
use Rattle.feed.proofs.cells.read_cells.Given as goal

abbrev pub invariant-loop-i : goal.invariant-loop-i
invariant-loop-i l =
    (l.cells.items ≡ take l.i l.column.cells) × All (Holds l.column.layouts) l.cells.items
    × (l.i-end ≡ length l.column.cells)
