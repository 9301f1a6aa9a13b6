use Rattle.std.proofs.Common.{ap, ◌∙◌}
use Rattle.std.proofs.lemmas.List.{length-set}
use Rattle.upkeep.specs.ViewStates.{stale_if}
use Rattle.upkeep.proofs.LookedUpViews.{stale_more}
use Rattle.upkeep.proofs.lookup_views.mark_lookups_stale.Goals as goal

pub loop-place-preserved : goal.loop-place-preserved
loop-place-preserved c = record {
  marked =
      stale_more c.args.table c.args.views.now c.args.states.now.items c.loop-place.states.items c.loop-place.place
      c.index-views-place.result c.index_mut.result.now (stale_if c.looks_up.result c.index_mut.result.now)
      c.requires.alike c.loop-place.invariant.marked c.loop-place-test.true c.index-views-place.is
      c.index_mut.ensures.value (ap (λ b. stale_if b c.index_mut.result.now) c.looks_up.ensures);
  alike =
      length-set c.loop-place.states.items c.loop-place.place (stale_if c.looks_up.result c.index_mut.result.now)
      ∙ c.loop-place.invariant.alike;
}
