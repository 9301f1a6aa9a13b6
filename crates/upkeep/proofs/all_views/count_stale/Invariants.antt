use Rattle.std.proofs.Common.{◌≡◌, count_by, take}
use Rattle.upkeep.specs.declared.view_state.ViewState.{ViewState}
use Rattle.upkeep.proofs.all_views.count_stale.Given as goal

abbrev pub invariant-loop-state : goal.invariant-loop-state
invariant-loop-state l = l.count ≡ count_by (λ (s : ViewState). s.stale) (take l.state-index l.states)
