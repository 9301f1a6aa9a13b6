use Rattle.std.specs.Prelude.{[]}
use Rattle.group_state.proofs.FirstRows.{first-kept}
use Rattle.group_state.proofs.groups.put_first_row.Goals as goal

pub returns-clause-here : goal.returns-clause-here
returns-clause-here g c =
    first-kept c.args.columns.now (g.R.RowView.cells c.args.row.now) _ c.args.tuple.now _ c.insert.new.self.entries
    c.in_ok-insert.ensures.updates.1 (c.in_ok-add.ensures [] c.in_ok-group.ensures) c.in_ok-copy.ensures
