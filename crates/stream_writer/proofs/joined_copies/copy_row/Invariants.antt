use Rattle.std.proofs.Common.{◌≡◌, [], get_or, take}
use Rattle.body_writer.specs.Picked.{picked}
use Rattle.stream_writer.specs.JoinedRows.{joined_rows}
use Rattle.stream_writer.proofs.joined_copies.copy_row.Given as goal

abbrev pub invariant-loop-column : goal.invariant-loop-column
invariant-loop-column l =
    l.row.items ≡ picked (take l.column-index l.columns) (get_or (joined_rows l.rows) l.index [])
