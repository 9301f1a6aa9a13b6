use Rattle.body_writer.proofs.BoundedRows.{rows_bounded}
use Rattle.body_writer.proofs.weighing.heaviest_row.Goals as goal

pub returns-in-Some-clause-light : goal.returns-in-Some-clause-light
returns-in-Some-clause-light c =
    rows_bounded c.bound_rows.result c.args.columns.now c.args.count c.in-Some.bound c.in-Some.is c.bound_rows.ensures
    c.requires
