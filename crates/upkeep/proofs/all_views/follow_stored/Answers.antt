use Rattle.std.proofs.Common.{◌∙◌, ◌∷◌, [], arith, refl}
use Rattle.std.proofs.lemmas.List.{length-set}
use Rattle.upkeep.specs.Stores.{rows_in, tables_in}
use Rattle.upkeep.specs.StoreLaws.{set_same}
use Rattle.upkeep.specs.declared.view_state.ViewState.{ViewState}
use Rattle.upkeep.proofs.FollowedViews.{all_followed, follow_fits, followed_more}
use Rattle.upkeep.proofs.all_views.follow_stored.Goals as goal

pub follow_one-requires-clause-fits : goal.follow_one-requires-clause-fits
follow_one-requires-clause-fits c =
    let given = c.requires.fits in
    follow_fits c.args.stores.now c.args.stores.now given.0 _ c.args.turn (c.args.number ∷ [])
    c.loop-place.place c.args.views.now c.loop-place.states.items c.index-views-place.result c.index_mut.result.now
    refl refl (c.loop-place.invariant.followed given.0 given.1.1.0 given.1.0) c.loop-place-test.true
    c.index-views-place.is c.index_mut.ensures.value given.1.1.0 given.1.1.1

pub loop-place-preserved : goal.loop-place-preserved
loop-place-preserved c = record {
  followed = λ rows fits each.
      followed_more c.args.stores.now c.args.stores.now rows c.args.turn (c.args.number ∷ [])
      c.loop-place.place c.args.views.now c.loop-place.states.items c.index-views-place.result c.index_mut.result.now
      c.follow_one.new.state refl refl (c.loop-place.invariant.followed rows fits each) c.loop-place-test.true
      c.index-views-place.is c.index_mut.ensures.value c.in_ok-follow_one.ensures.kept fits;
  stale =
      set_same (λ (s : ViewState). s.stale) c.loop-place.states.items c.loop-place.place c.index_mut.result.now
      c.follow_one.new.state c.index_mut.ensures.value c.follow_one.ensures.stale
      ∙ c.loop-place.invariant.stale;
  many =
      length-set c.loop-place.states.items c.loop-place.place c.follow_one.new.state ∙ c.loop-place.invariant.many;
}

pub returns-clause-kept : goal.returns-clause-kept
returns-clause-kept c = λ rows fits each.
    all_followed (tables_in c.args.stores.now) (rows_in c.args.stores.now) rows _ c.loop-place.place
    c.args.views.now c.loop-place.states.items (c.loop-place.invariant.followed rows fits each)
    (omega (arith, c.loop-place-test.false))
