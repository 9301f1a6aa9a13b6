use Rattle.std.proofs.Common.{◌∙◌, arith, length, subst, sym}
use Rattle.std.proofs.lemmas.List.{length-set}
use Rattle.upkeep.specs.Arrivals.{Describes, rows_of_numbers}
use Rattle.upkeep.specs.Stores.{Rows, rows_at, rows_in, tables_in, visits_in}
use Rattle.upkeep.specs.StoreLaws.{set_same}
use Rattle.upkeep.specs.declared.view_state.ViewState.{ViewState}
use Rattle.upkeep.proofs.ArrivalRows.{each_at}
use Rattle.upkeep.proofs.ChangedStores.{still_same}
use Rattle.upkeep.proofs.FollowedViews.{all_followed, follow_fits, followed_more, opened_more}
use Rattle.upkeep.proofs.all_views.follow_each.Goals as goal

pub follow-requires-clause-fits : goal.follow-requires-clause-fits
follow-requires-clause-fits c =
    let given = c.requires.fits in
    follow_fits c.args.stores.now.items c.loop-place.stores.items given.0 _ c.args.turn c.args.numbers.now
    c.loop-place.place c.args.views.now c.loop-place.states.items c.index-views-place.result c.index_mut.result.now
    c.loop-place.invariant.same_rows.tables c.loop-place.invariant.same_rows.rows
    (c.loop-place.invariant.followed given.0 given.1.1.0 given.1.0) c.loop-place-test.true c.index-views-place.is
    c.index_mut.ensures.value given.1.1.0 given.1.1.1

pub follow-requires-clause-known : goal.follow-requires-clause-known
follow-requires-clause-known c =
    subst (λ (rs : Rows). Describes c.index-views-place.result (rows_of_numbers (rows_at rs 0) c.args.numbers.now)
    c.arrival_at.result.now) (sym c.loop-place.invariant.same_rows.rows)
    (each_at c.args.views.now (rows_of_numbers (rows_at (rows_in c.args.stores.now.items) 0) c.args.numbers.now)
    c.args.arrivals.now c.loop-place.place c.index-views-place.result c.arrival_at.result.now c.index-views-place.is
    c.arrival_at.ensures c.loop-place-test.true c.requires.known)

pub loop-place-preserved : goal.loop-place-preserved
loop-place-preserved c = record {
  followed = λ rows fits each.
      followed_more c.args.stores.now.items c.loop-place.stores.items rows c.args.turn c.args.numbers.now
      c.loop-place.place c.args.views.now c.loop-place.states.items c.index-views-place.result c.index_mut.result.now
      c.follow.new.state c.loop-place.invariant.same_rows.tables c.loop-place.invariant.same_rows.rows
      (c.loop-place.invariant.followed rows fits each) c.loop-place-test.true c.index-views-place.is
      c.index_mut.ensures.value c.in_ok-follow.ensures.kept fits;
  stale =
      set_same (λ (s : ViewState). s.stale) c.loop-place.states.items c.loop-place.place c.index_mut.result.now
      c.follow.new.state c.index_mut.ensures.value c.in_ok-follow.ensures.stale
      ∙ c.loop-place.invariant.stale;
  many =
      length-set c.loop-place.states.items c.loop-place.place c.follow.new.state ∙ c.loop-place.invariant.many;
  same_rows = still_same c.loop-place.invariant.same_rows c.follow.ensures.same_rows;
  visits =
      opened_more c.loop-place.place (length c.args.numbers.now) (visits_in c.args.stores.now.items)
      (visits_in c.loop-place.stores.items) (visits_in c.follow.new.stores.items) c.loop-place.invariant.visits
      c.follow.ensures.visits;
}

pub returns-clause-kept : goal.returns-clause-kept
returns-clause-kept c = λ rows fits each.
    all_followed (tables_in c.args.stores.now.items) (rows_in c.args.stores.now.items) rows _ c.loop-place.place
    c.args.views.now c.loop-place.states.items (c.loop-place.invariant.followed rows fits each)
    (omega (arith, c.loop-place-test.false))
