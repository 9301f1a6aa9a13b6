use Rattle.std.proofs.Common.{take}
use Rattle.stream_writer.proofs.PlaceRowLemmas.{AreColumns}
use Rattle.stream_writer.proofs.locate_rows.located_columns.Given as goal

abbrev pub invariant-loop-j : goal.invariant-loop-j
invariant-loop-j l = AreColumns l.rows (take l.j l.columns) l.placed.items
