use Rattle.std.proofs.Common.{◌≡◌, ◌++◌, drop}
use Rattle.body_writer.specs.RowRanges.{column_in}
use Rattle.body_writer.proofs.from_columns.gather.values_of.Given as goal

abbrev pub invariant-loop-range : goal.invariant-loop-range
invariant-loop-range l =
    l.values.items ++ column_in l.j (drop l.range-index l.ranges) ≡ column_in l.j l.ranges
