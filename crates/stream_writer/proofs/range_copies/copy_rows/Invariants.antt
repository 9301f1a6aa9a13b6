use Rattle.std.proofs.Common.{◌≡◌, ◌++◌, drop}
use Rattle.std.specs.Prelude.{map}
use Rattle.body_writer.specs.RowRanges.{ranges_rows}
use Rattle.body_writer.specs.Picked.{picked_rows}
use Rattle.stream_writer.proofs.range_copies.copy_rows.Given as goal

abbrev pub invariant-loop-range : goal.invariant-loop-range
invariant-loop-range l =
    map (λ row. row.items) l.rows.items ++ picked_rows l.columns (ranges_rows (drop l.range-index l.ranges))
    ≡ picked_rows l.columns (ranges_rows l.ranges)
