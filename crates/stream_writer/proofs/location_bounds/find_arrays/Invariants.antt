use Rattle.std.proofs.Common.{take}
use Rattle.stream_writer.specs.JoinedRows.{AreArrays}
use Rattle.stream_writer.proofs.location_bounds.find_arrays.Given as goal

abbrev pub invariant-loop-j : goal.invariant-loop-j
invariant-loop-j l = AreArrays l.rows (take l.j l.columns) l.arrays.items
