use Rattle.std.proofs.Common.{subst}
use Rattle.group_state.specs.Cells.{KeepsCells}
use Rattle.group_state.specs.declared.tally.Tally.{Tally}
use Rattle.group_state.proofs.Totals.{values-follow}
use Rattle.group_state.proofs.tally.Tally.add.Goals as goal

pub returns-in_ok-add_value-in-Values : goal.returns-in_ok-add_value-in-Values
returns-in_ok-add_value-in-Values g c = λ form cells k.
    values-follow _ c.add_value.new.values _ _ (c.in_ok-add_value-in-Values.ensures cells) form
    (subst (λ (t : Tally). KeepsCells form t cells) c.in-Values.is k)
