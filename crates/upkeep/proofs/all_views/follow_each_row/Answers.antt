use Rattle.std.proofs.Common.{◌∙◌, ◌∷◌, ◌<◌, ℕ, List, [], get_or, length, subst, sym}
use Rattle.view_lang.specs.Config.{Table}
use Rattle.row_keys.specs.Slots.{IsLiveAt}
use Rattle.view_lang.specs.Shifts.{Fits, IsFew, NumberedRows, patched}
use Rattle.upkeep.specs.Stores.{Rows, rows_at, rows_in, tables_in, visits_in}
use Rattle.upkeep.specs.ViewStates.{EachIsCurrent, turned}
use Rattle.upkeep.proofs.ChangedStores.{still_of, still_same}
use Rattle.upkeep.proofs.FollowedViews.{opened_more}
use Rattle.upkeep.proofs.RowByRow.{all_turned, at_stores, one_more, one_needs}
use Rattle.upkeep.proofs.all_views.follow_each_row.Goals as goal

pub follow_row-requires-clause-these : goal.follow_row-requires-clause-these
follow_row-requires-clause-these c =
    still_of c.args.stores.now.items c.loop-number.stores.items c.args.views.now
    c.loop-number.invariant.same_rows.tables c.requires.these

pub follow_row-requires-clause-there : goal.follow_row-requires-clause-there
follow_row-requires-clause-there c =
    subst (λ (rs : Rows). get_or c.args.numbers.now c.loop-number.number-index 0 < length (rows_at rs 0))
    (sym c.loop-number.invariant.same_rows.rows)
    (c.requires.there c.loop-number.number-index 0 c.loop-number-test.true)

pub follow_row-requires-clause-live : goal.follow_row-requires-clause-live
follow_row-requires-clause-live c = λ go.
    subst (λ (rs : Rows). IsLiveAt (rows_at rs 0) (get_or c.args.numbers.now c.loop-number.number-index 0))
    (sym c.loop-number.invariant.same_rows.rows)
    (c.requires.live go c.loop-number.number-index 0 c.loop-number-test.true)

pub follow_row-requires-clause-fits : goal.follow_row-requires-clause-fits
follow_row-requires-clause-fits c =
    let views = c.args.views.now in
    let stores = c.args.stores.now.items in
    let now = c.loop-number.stores.items in
    let slots = rows_at (rows_in stores) 0 in
    let n : ℕ = get_or c.args.numbers.now c.loop-number.number-index 0 in
    at_stores (λ (ts : List Table) (rs : Rows). (rows : NumberedRows)
    × (EachIsCurrent ts rs rows views c.loop-number.states.items
    × (Fits rows (turned c.args.turn (rows_at rs 0) (n ∷ [])) × IsFew rows (turned c.args.turn (rows_at rs 0) (n ∷ [])))))
    (tables_in stores) (tables_in now) (rows_in stores) (rows_in now) (sym c.loop-number.invariant.same_rows.tables)
    (sym c.loop-number.invariant.same_rows.rows)
    (one_needs (λ rows. EachIsCurrent (tables_in stores) (rows_in stores) rows views c.args.states.now.items)
    (λ rows. EachIsCurrent (tables_in stores) (rows_in stores) rows views c.loop-number.states.items)
    (λ rows. EachIsCurrent (tables_in stores) (rows_in stores) rows views c.loop-number.states.items)
    c.args.turn slots c.args.numbers.now c.loop-number.number-index c.loop-number-test.true
    c.loop-number.invariant.followed c.requires.fits.0 c.requires.fits.1.0 c.requires.fits.1.1.0
    c.requires.fits.1.1.1)

pub loop-number-preserved : goal.loop-number-preserved
loop-number-preserved c =
    let views = c.args.views.now in
    let stores = c.args.stores.now.items in
    let now = c.loop-number.stores.items in
    let slots = rows_at (rows_in stores) 0 in
    let n : ℕ = get_or c.args.numbers.now c.loop-number.number-index 0 in
    record {
      followed =
          one_more (λ rows. EachIsCurrent (tables_in stores) (rows_in stores) rows views c.args.states.now.items)
          (λ rows. EachIsCurrent (tables_in stores) (rows_in stores) rows views c.loop-number.states.items)
          (λ rows. EachIsCurrent (tables_in stores) (rows_in stores) rows views c.follow_row.new.states.items)
          c.args.turn slots c.args.numbers.now c.loop-number.number-index c.loop-number-test.true
          c.loop-number.invariant.followed
          (at_stores (λ (ts : List Table) (rs : Rows). (rows : NumberedRows)
          → Fits rows (turned c.args.turn (rows_at rs 0) (n ∷ []))
          → EachIsCurrent ts rs rows views c.loop-number.states.items
          → EachIsCurrent ts rs (patched rows (turned c.args.turn (rows_at rs 0) (n ∷ []))) views
          c.follow_row.new.states.items)
          (tables_in now) (tables_in stores) (rows_in now) (rows_in stores) c.loop-number.invariant.same_rows.tables
          c.loop-number.invariant.same_rows.rows c.in_ok-follow_row.ensures.kept);
      stale = c.in_ok-follow_row.ensures.stale ∙ c.loop-number.invariant.stale;
      many = c.follow_row.ensures.many ∙ c.loop-number.invariant.many;
      same_rows = still_same c.loop-number.invariant.same_rows c.follow_row.ensures.same_rows;
      visits =
          opened_more c.loop-number.number-index (length views) (visits_in stores) (visits_in now)
          (visits_in c.follow_row.new.stores.items) c.loop-number.invariant.visits c.follow_row.ensures.visits;
    }

pub returns-clause-kept : goal.returns-clause-kept
returns-clause-kept c =
    let views = c.args.views.now in
    let stores = c.args.stores.now.items in
    all_turned (λ rows. EachIsCurrent (tables_in stores) (rows_in stores) rows views c.args.states.now.items)
    (λ rows. EachIsCurrent (tables_in stores) (rows_in stores) rows views c.loop-number.states.items) c.args.turn
    (rows_at (rows_in stores) 0) c.args.numbers.now c.loop-number.number-index c.loop-number-test.false
    c.loop-number.invariant.followed
