use Rattle.std.proofs.Common.{◌≡◌, take}
use Rattle.upkeep.proofs.arrivals.cells_of.Given as goal

abbrev pub invariant-loop-i : goal.invariant-loop-i
invariant-loop-i l = l.cells.items ≡ take l.i l.column.cells
