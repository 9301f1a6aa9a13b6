use Rattle.std.proofs.Common.{◌≡◌, ◌++◌, drop}
use Rattle.std.specs.Prelude.{map}
use Rattle.body_writer.specs.Picked.{picked_rows}
use Rattle.stream_writer.specs.JoinedRows.{joined_rows}
use Rattle.stream_writer.proofs.joined_copies.copy_joined.Given as goal

abbrev pub invariant-loop-index : goal.invariant-loop-index
invariant-loop-index l =
    map (λ row. row.items) l.copies.items ++ picked_rows l.columns (drop l.index (joined_rows l.rows))
    ≡ picked_rows l.columns (joined_rows l.rows)
