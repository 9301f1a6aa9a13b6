use Rattle.std.proofs.Common.{◌≡◌, ℕ, ◌<◌, get_or}
use Rattle.view_lang.specs.Config.{View}
use Rattle.upkeep.specs.ViewStates.{IsIdle}
use Rattle.upkeep.specs.declared.view_state.ViewState.{ViewState}
use Rattle.upkeep.proofs.all_views.is_any_followed.Given as goal

abbrev pub invariant-loop-place : goal.invariant-loop-place
invariant-loop-place l = (k : ℕ) (v : View) (s : ViewState) → k < l.place → v ≡ get_or l.views k v
    → s ≡ get_or l.states k s → IsIdle v s
