use Rattle.std.proofs.Common.{drop}
use Rattle.values.specs.Rose.{kids_of}
use Rattle.body_writer.proofs.Rows.{Writing}
use Rattle.body_writer.specs.RowRanges.{ranges_rows}
use Rattle.body_writer.specs.Picked.{picked_rows}
use Rattle.body_writer.proofs.from_columns.picked.write_body_from_picked_columns.Given as goal

abbrev pub invariant-loop-j : goal.invariant-loop-j
invariant-loop-j l =
    Writing l.j (kids_of (drop l.j l.layouts)) (picked_rows l.columns (ranges_rows l.ranges)) l.body (kids_of l.layouts)
