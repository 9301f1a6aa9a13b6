use Rattle.std.proofs.Common.{drop}
use Rattle.values.specs.Rose.{kids_of}
use Rattle.body_writer.proofs.Rows.{Writing}
use Rattle.body_writer.specs.RowRanges.{ranges_rows}
use Rattle.body_writer.proofs.from_columns.write.write_body_from_columns.Given as goal

abbrev pub invariant-loop-j : goal.invariant-loop-j
invariant-loop-j l = Writing l.j (kids_of (drop l.j l.layouts)) (ranges_rows l.ranges) l.body (kids_of l.layouts)
