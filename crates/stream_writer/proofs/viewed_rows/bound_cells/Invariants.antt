use Rattle.std.proofs.Common.{take}
use Rattle.stream_writer.proofs.ViewLemmas.{AreWithin}
use Rattle.stream_writer.proofs.viewed_rows.bound_cells.Given as goal

abbrev pub invariant-loop-cell : goal.invariant-loop-cell
invariant-loop-cell l = AreWithin l.layout l.most (take l.cell-index l.cells)
