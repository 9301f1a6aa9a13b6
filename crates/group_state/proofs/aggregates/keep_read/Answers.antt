use Rattle.std.proofs.Common.{◌∙◌, sym}
use Rattle.group_state.proofs.AccumulatedColumns.{only-read}
use Rattle.group_state.proofs.AggregateCases.{kept-read}
use Rattle.group_state.proofs.aggregates.keep_read.Goals as goal

pub returns-in-Some-clause-only : goal.returns-in-Some-clause-only
returns-in-Some-clause-only c =
    only-read c.args.aggregate c.in-Some.column c.args.columns.now.items c.keep.new.columns.items c.keep.result
    (kept-read c.args.aggregate c.in-Some.column (sym c.in-Some.is ∙ c.accumulated_for.ensures)) c.keep.ensures.only
