use Rattle.std.proofs.Common.{ap, refl}
use Rattle.lookups.specs.Keeping.{Keeps}
use Rattle.upkeep.specs.ViewStates.{referring_by}
use Rattle.upkeep.proofs.RowByRow.{still_kept}
use Rattle.upkeep.proofs.turning.turn_referring.Goals as goal

pub returns-in_default : goal.returns-in_default
returns-in_default c = λ rows fits k.
    still_kept (Keeps c.args.referrers.now) _ c.args.turn c.args.number (referring_by c.args.lookup c.args.row.now)
    rows refl (ap (λ o. referring_by o c.args.row.now) c.in_default.is) fits k
