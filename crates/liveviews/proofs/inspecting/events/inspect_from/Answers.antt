use Rattle.liveviews.proofs.Alike.{inspects-source}
use Rattle.liveviews.proofs.inspecting.events.inspect_from.Goals as goal

pub returns : goal.returns
returns g c =
    inspects-source c.account_law.ensures _ _ c.in_ok-told.field-0.status _ c.in_ok-ran.ensures c.in_ok-told.ensures
