use Rattle.std.proofs.Common.{ap, refl}
use Rattle.std.specs.Option.{option_map}
use Rattle.upkeep.specs.ViewStates.{IsMaterialized, projected_by}
use Rattle.upkeep.proofs.ArrivalRows.{made-none}
use Rattle.upkeep.proofs.RowByRow.{still_kept}
use Rattle.upkeep.proofs.turning.turn_joined.Goals as goal

pub returns-in_default-clause-kept : goal.returns-in_default-clause-kept
returns-in_default-clause-kept g c = λ rows fits k.
    let outputs = c.args.view.now.outputs in
    let made = option_map g.R.RowView.cells c.args.joined.now in
    still_kept (IsMaterialized c.args.view.now c.args.kept.now) _ c.args.turn c.args.number (projected_by outputs made) rows refl
    (made-none outputs made (ap (option_map g.R.RowView.cells) c.in_default.is)) fits k
