use Rattle.std.proofs.Common.{◌≡◌, All, length, take, true}
use Rattle.upkeep.specs.declared.view_state.ViewState.{ViewState}
use Rattle.upkeep.proofs.all_views.mark_all_stale.Given as goal

abbrev pub invariant-loop-place : goal.invariant-loop-place
invariant-loop-place l = record {
  stale : All (λ (s : ViewState). s.stale ≡ true) (take l.place l.states.items);
  many : length l.states.items ≡ length l.fn.states.items;
}
