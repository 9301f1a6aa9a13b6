use Rattle.values.specs.Rose.{kids_of}
use Rattle.body_writer.specs.RowRanges.{ranges_rows}
use Rattle.column_merge.proofs.BodyColumns.{columns_long}
use Rattle.column_merge.proofs.merge.merge_rows.Goals as goal

pub returns-clause-long : goal.returns-clause-long
returns-clause-long c =
    let body = c.in_ok-body.ensures in
    columns_long (kids_of c.args.layouts.now) (ranges_rows c.args.ranges.now) (λ cs. cs.items) c.read_columns.result
    (c.written_law.ensures (kids_of c.args.layouts.now) (ranges_rows c.args.ranges.now) c.requires.batch)
    (rw (body.nodes, body.ranges, body.bytes) at c.read_columns.ensures.reading)
