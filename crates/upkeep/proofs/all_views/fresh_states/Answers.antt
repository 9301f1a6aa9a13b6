use Rattle.std.proofs.Common.{ap, false, map, ◌∙◌}
use Rattle.std.proofs.lemmas.List.{take_all}
use Rattle.view_lang.specs.Config.{View}
use Rattle.upkeep.proofs.StaleViews.{fresh_more, fresh_stale}
use Rattle.upkeep.proofs.all_views.fresh_states.Goals as goal

pub loop-view-preserved : goal.loop-view-preserved
loop-view-preserved c = record {
  current = λ tables rows wide.
      fresh_more tables rows c.args.views.now c.loop-view.view-index c.loop-view.states.items c.push.new.self.items
      c.view-item.result c.in_ok-state.state (c.loop-view.invariant.current tables rows wide) c.loop-view-test.true
      c.view-item.is c.in_ok-state.ensures.kept
      (c.in_ok-state.ensures.right tables wide, c.in_ok-state.ensures.links) c.in_ok-push.ensures.items;
  stale =
      fresh_stale c.args.views.now c.loop-view.view-index c.loop-view.states.items c.push.new.self.items
      c.in_ok-state.state c.loop-view.invariant.stale c.loop-view-test.true c.view-item.result c.view-item.is
      c.in_ok-state.ensures.fresh c.in_ok-push.ensures.items;
}

pub returns-clause-stale : goal.returns-clause-stale
returns-clause-stale c =
    c.loop-view.invariant.stale
    ∙ ap (map (λ (_ : View). false)) (take_all c.loop-view.view-index c.args.views.now c.loop-view-test.false)
