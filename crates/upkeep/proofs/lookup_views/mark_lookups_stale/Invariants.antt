use Rattle.std.proofs.Common.{◌≡◌, length, take}
use Rattle.upkeep.specs.ViewStates.{lookups_stale}
use Rattle.upkeep.proofs.lookup_views.mark_lookups_stale.Given as goal

abbrev pub invariant-loop-place : goal.invariant-loop-place
invariant-loop-place l = record {
  marked : l.states.items ≡ lookups_stale l.table (take l.place l.views) l.fn.states.items;
  alike : length l.states.items ≡ length l.views;
}
