use Rattle.std.proofs.Common.{◌≡◌, List, [], false, map, take}
use Rattle.view_lang.specs.Config.{Table, View}
use Rattle.upkeep.specs.Stores.{Rows}
use Rattle.upkeep.specs.ViewStates.{EachIsCurrent, stale_in, width_in}
use Rattle.upkeep.proofs.all_views.fresh_states.Given as goal

abbrev pub invariant-loop-view : goal.invariant-loop-view
invariant-loop-view l = record {
  current :
      (tables : List Table) (rows : Rows) → l.width ≡ width_in tables
      → EachIsCurrent tables rows [] (take l.view-index l.views) l.states.items;
  stale : stale_in l.states.items ≡ map (λ (_ : View). false) (take l.view-index l.views);
}
