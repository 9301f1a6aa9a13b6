use Rattle.std.proofs.Common.{◌∷◌, subst}
use Rattle.group_state.specs.Cells.{KeepsCells}
use Rattle.group_state.specs.Rows.{cell}
use Rattle.group_state.specs.declared.tally.Tally.{Tally}
use Rattle.group_state.proofs.Totals.{values-follow}
use Rattle.group_state.proofs.tally.Tally.remove.Goals as goal

pub returns-in_ok-remove_value-in-Values : goal.returns-in_ok-remove_value-in-Values
returns-in_ok-remove_value-in-Values g c = λ form cells k.
    values-follow _ c.remove_value.new.values _ _ (c.in_ok-remove_value-in-Values.ensures cells) form
    (subst (λ (t : Tally). KeepsCells form t (cell c.args.column (g.R.RowView.cells c.args.row.now) ∷ cells)) c.in-Values.is k)
