use Rattle.std.proofs.Common.{◌≡◌}
use Rattle.stream_writer.specs.ViewedRows.{viewed_columns}
use Rattle.session.specs.LentRows.{lent_columns}
use Rattle.session.proofs.view.columns_of.Given as goal

abbrev pub invariant-loop-column : goal.invariant-loop-column
invariant-loop-column l = viewed_columns l.columns.items ≡ lent_columns l.column l.rows
