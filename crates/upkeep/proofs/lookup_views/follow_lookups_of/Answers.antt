use Rattle.std.proofs.Common.{◌≡◌, ◌+◌, List, ap, arith, length, map, subst, sym, ◌∙◌}
use Rattle.std.specs.Prelude.{slice_set}
use Rattle.std.proofs.lemmas.List.{length-set}
use Rattle.values.specs.Keys.{datum_of_key}
use Rattle.view_lang.specs.Config.{Table}
use Rattle.view_lang.specs.ConfigRules.{IsView}
use Rattle.view_lang.specs.World.{table_at}
use Rattle.row_keys.specs.Numbered.{numbered}
use Rattle.upkeep.specs.Stores.{Rows, rows_at, rows_in, tables_in}
use Rattle.upkeep.specs.StoreLaws.{set_same}
use Rattle.upkeep.specs.Swaps.{CanSwap}
use Rattle.upkeep.specs.Touched.{count_referring}
use Rattle.upkeep.specs.ViewStates.{AreCurrent, stale_in}
use Rattle.upkeep.specs.declared.view_state.ViewState.{ViewState}
use Rattle.upkeep.proofs.ChangedStores.{still_same, view_there}
use Rattle.upkeep.proofs.FollowedViews.{current_alike}
use Rattle.upkeep.proofs.LookedUpViews.{
  all_following,
  lookups_length,
  many_stores,
  marked_following,
  named_at,
  opened_all,
  stale_set,
}
use Rattle.upkeep.proofs.NextViews.{IsNext, before_next, current_next, more_next, opened_next}
use Rattle.upkeep.proofs.StoreContents.{hold_same, to_stores}
use Rattle.upkeep.proofs.lookup_views.follow_lookups_of.Goals as goal
use Rattle.upkeep.proofs.lookup_views.follow_lookups_of.Goals.{After-index_mut, Start}

-- The states are as many as the views.
alike : (c : Start) → length c.args.states.now.items ≡ length c.args.views.now
alike c =
    current_alike (tables_in c.args.stores.now.items) c.requires.current.0
    (numbered (rows_at c.requires.current.0 0)) c.args.views.now c.args.states.now.items c.requires.current.2

next : (c : After-index_mut)
    → IsNext c.args.views.now c.loop-place.states.items c.loop-place.place c.index-views-place.result
    c.index_mut.result.now
next c = record {
  below = c.loop-place-test.true;
  view = c.index-views-place.is;
  state = c.index_mut.ensures.value;
}

pub index_mut-requires : goal.index_mut-requires
index_mut-requires c =
    let same = alike (goal.at.index_mut-requires c).Start in
    let many = c.loop-place.invariant.many in
    let below = c.loop-place-test.true in
    omega (arith, same, many, below)

pub mark_lookups_stale-requires : goal.mark_lookups_stale-requires
mark_lookups_stale-requires c = record {
  alike =
      length-set c.loop-place.states.items c.loop-place.place c.follow_lookup.new.state
      ∙ c.loop-place.invariant.many ∙ alike (goal.at.mark_lookups_stale-requires c).Start;
}

pub follow_lookup-requires : goal.follow_lookup-requires
follow_lookup-requires c =
    let next = next (goal.at.follow_lookup-requires c).After-index_mut in
    let same = c.loop-place.invariant.same_rows in
    let many = many_stores c.args.stores.now.items c.loop-place.stores.items same.tables in
    let main = c.requires.of.main in
    let there = c.requires.there in
    let given = c.requires.current in
    let following = c.loop-place.invariant.following given.0 given.1 given.2 in
    record {
      view =
          to_stores (hold_same same) (λ (ts : List Table) (rs : Rows). IsView ts c.index-views-place.result)
          (view_there c.args.stores.now.items c.args.views.now c.loop-place.place c.index-views-place.result
          c.requires.of c.loop-place-test.true c.index-views-place.is);
      main = omega (arith, many, main);
      side = c.requires.side;
      there = omega (arith, many, there);
      swaps =
          to_stores (hold_same same) (λ (ts : List Table) (rs : Rows). CanSwap c.args.turn (table_at ts c.args.table)
          c.args.change.now (rows_at rs c.args.table)) c.requires.swaps;
      keys =
          to_stores (hold_same same) (λ (ts : List Table) (rs : Rows). map datum_of_key c.args.keys.now
          ≡ named_at c.args.table c.args.change.now ts rs) c.requires.keys;
      current = (
        given.0,
        before_next same next c.args.table c.args.change.now c.args.turn given.0 given.1 following,
        current_next same next c.args.table c.args.change.now c.args.turn given.0 given.1 following,
      );
    }

pub loop-place-preserved : goal.loop-place-preserved
loop-place-preserved c =
    let next = next (goal.at.loop-place-preserved c).After-index_mut in
    let same = c.loop-place.invariant.same_rows in
    record {
      following = λ old before current.
          more_next same next c.args.table c.args.change.now c.args.turn old before
          (c.loop-place.invariant.following old before current) c.follow_lookup.new.state c.in_default.ensures.kept;
      stale =
          set_same (λ (s : ViewState). s.stale) c.loop-place.states.items c.loop-place.place c.index_mut.result.now
          c.follow_lookup.new.state c.index_mut.ensures.value c.in_default.ensures.stale
          ∙ c.loop-place.invariant.stale;
      many =
          length-set c.loop-place.states.items c.loop-place.place c.follow_lookup.new.state
          ∙ c.loop-place.invariant.many;
      same_rows = still_same same c.follow_lookup.ensures.same_rows;
      visits =
          opened_next same next c.args.table c.args.change.now c.follow_lookup.new.stores.items
          c.loop-place.invariant.visits c.follow_lookup.ensures.visits;
    }

pub returns-clause-kept : goal.returns-clause-kept
returns-clause-kept c = λ old before current.
    all_following (tables_in c.args.stores.now.items) old (rows_in c.args.stores.now.items) c.loop-place.place
    c.args.views.now c.loop-place.states.items (omega (arith, c.loop-place-test.false))
    (c.loop-place.invariant.following old before current)

-- After an error the states are those before, with those of views that look the table up stale.

pub returns-in-Err-clause-err : goal.returns-in-Err-clause-err
returns-in-Err-clause-err c = λ old before current.
    subst (λ (ss : List ViewState). AreCurrent (tables_in c.args.stores.now.items) old c.args.views.now ss)
    (sym c.mark_lookups_stale.ensures)
    (marked_following (tables_in c.args.stores.now.items) c.args.table c.loop-place.place old
    (rows_in c.args.stores.now.items) c.args.views.now c.loop-place.states.items c.index-views-place.result
    c.follow_lookup.new.state c.requires.side before.differs c.index-views-place.is c.in-Err.ensures.err
    (c.loop-place.invariant.following old before current))

pub returns-in-Err-clause-err_stale : goal.returns-in-Err-clause-err_stale
returns-in-Err-clause-err_stale c =
    ap stale_in c.mark_lookups_stale.ensures
    ∙ stale_set c.args.table c.args.views.now c.loop-place.states.items c.args.states.now.items c.loop-place.place
    c.index-views-place.result c.follow_lookup.new.state c.index-views-place.is c.loop-place-test.true
    c.in-Err.ensures.err c.loop-place.invariant.stale

pub returns-in-Err-clause-many : goal.returns-in-Err-clause-many
returns-in-Err-clause-many c =
    ap length c.mark_lookups_stale.ensures
    ∙ lookups_length c.args.table c.args.views.now
    (slice_set c.loop-place.states.items c.loop-place.place c.follow_lookup.new.state)
    ∙ length-set c.loop-place.states.items c.loop-place.place c.follow_lookup.new.state
    ∙ c.loop-place.invariant.many

pub returns-in-Err-clause-visits : goal.returns-in-Err-clause-visits
returns-in-Err-clause-visits c =
    let opened = opened_next c.loop-place.invariant.same_rows
    (next (goal.at.returns-in-Err-clause-visits c).After-index_mut) c.args.table c.args.change.now
    c.follow_lookup.new.stores.items c.loop-place.invariant.visits c.follow_lookup.ensures.visits in
    let below = c.loop-place-test.true in
    let few = opened_all (c.loop-place.place + 1) (length c.args.views.now)
    (count_referring c.args.stores.now.items c.args.views.now c.args.table c.args.change.now)
    (omega (arith, below)) in
    omega (arith, opened, few)
