use Rattle.std.proofs.Common.{◌+◌, ◌<◌, ◌∙◌, ℕ, List, [], ◌∷◌, Option, arith, get_or, length, map, subst, sym}
use Rattle.values.specs.Datum.{Datum}
use Rattle.view_lang.specs.Images.{shift_image}
use Rattle.view_lang.specs.Config.{Table}
use Rattle.view_lang.specs.Limits.{max_appended_rows}
use Rattle.view_lang.specs.Shifts.{Fits, NumberedRows, patched}
use Rattle.row_keys.specs.Slots.{row_of}
use Rattle.upkeep.specs.Arrivals.{DescribesSome}
use Rattle.upkeep.specs.Inputs.{side_by}
use Rattle.upkeep.specs.Stores.{Rows, rows_at, rows_in, tables_in}
use Rattle.upkeep.specs.ViewStates.{IsMaterialized, KeepsLinks, link_change, link_row, projected_change, projected_row, turned}
use Rattle.upkeep.specs.declared.view_state.Links.{Links}
use Rattle.upkeep.proofs.ArrivalRows.{opened_grows, opened_next, tells_one}
use Rattle.upkeep.proofs.ChangedStores.{still_same}
use Rattle.upkeep.proofs.FollowedRows.{links_same}
use Rattle.upkeep.proofs.RowByRow.{at_stores, kept_all, kept_more, next_needs}
use Rattle.upkeep.proofs.follow.follow_numbers.Goals as goal

pub follow_number-requires-clause-known : goal.follow_number-requires-clause-known
follow_number-requires-clause-known c =
    subst (λ (rs : Rows). DescribesSome c.args.view.now c.args.arrival.now c.loop-index.index
    (row_of (rows_at rs 0) (get_or c.args.numbers.now c.loop-index.index 0))) (sym c.loop-index.invariant.same_rows.rows)
    (tells_one c.args.view.now c.args.arrival.now (rows_at (rows_in c.args.stores.now.items) 0) c.args.numbers.now
    c.loop-index.index c.loop-index-test.true c.requires.known)

pub follow_number-requires-clause-fits : goal.follow_number-requires-clause-fits
follow_number-requires-clause-fits c =
    let v = c.args.view.now in
    let stores = c.args.stores.now.items in
    let now = c.loop-index.stores.items in
    let slots = rows_at (rows_in stores) 0 in
    let make = projected_row v (side_by (tables_in stores) (rows_in stores) v) in
    let n : ℕ = get_or c.args.numbers.now c.loop-index.index 0 in
    at_stores (λ (ts : List Table) (rs : Rows). (rows : NumberedRows)
    × (IsMaterialized v c.loop-index.state.kept rows
    × (Fits rows (projected_change ts rs v c.args.turn (n ∷ [])) × (length rows < max_appended_rows))))
    (tables_in stores) (tables_in now) (rows_in stores) (rows_in now) (sym c.loop-index.invariant.same_rows.tables)
    (sym c.loop-index.invariant.same_rows.rows)
    (next_needs (IsMaterialized v c.args.state.now.kept) (IsMaterialized v c.loop-index.state.kept) make
    c.args.turn slots c.args.numbers.now c.loop-index.index c.requires.fits.0 (omega (arith, c.loop-index-test.true))
    c.loop-index.invariant.kept c.requires.fits.1.0 c.requires.fits.1.1.0 c.requires.fits.1.1.1)

pub follow_number-requires-clause-links : goal.follow_number-requires-clause-links
follow_number-requires-clause-links c =
    let v = c.args.view.now in
    let stores = c.args.stores.now.items in
    let now = c.loop-index.stores.items in
    let slots = rows_at (rows_in stores) 0 in
    let l : Links = c.args.state.now.links in
    let n : ℕ = get_or c.args.numbers.now c.loop-index.index 0 in
    at_stores (λ (ts : List Table) (rs : Rows). (rows : NumberedRows)
    × (KeepsLinks c.loop-index.state.links rows
    × (Fits rows (link_change (rows_at rs 0) c.loop-index.state.links v c.args.turn (n ∷ [])) × (length rows < max_appended_rows))))
    (tables_in stores) (tables_in now) (rows_in stores) (rows_in now) (sym c.loop-index.invariant.same_rows.tables)
    (sym c.loop-index.invariant.same_rows.rows)
    (subst (λ (h : List Datum → Option (List Datum)). (rows : NumberedRows)
    × (KeepsLinks c.loop-index.state.links rows
    × (Fits rows (map (shift_image h) (turned c.args.turn slots (n ∷ []))) × (length rows < max_appended_rows))))
    (sym (links_same l c.loop-index.state.links v c.loop-index.invariant.form))
    (next_needs (KeepsLinks l) (KeepsLinks c.loop-index.state.links) (link_row l v)
    c.args.turn slots c.args.numbers.now c.loop-index.index c.requires.links.0 (omega (arith, c.loop-index-test.true))
    c.loop-index.invariant.links c.requires.links.1.0 c.requires.links.1.1.0 c.requires.links.1.1.1))

pub loop-index-preserved : goal.loop-index-preserved
loop-index-preserved c =
    let v = c.args.view.now in
    let stores = c.args.stores.now.items in
    let now = c.loop-index.stores.items in
    let slots = rows_at (rows_in stores) 0 in
    let make = projected_row v (side_by (tables_in stores) (rows_in stores) v) in
    let l : Links = c.args.state.now.links in
    let n : ℕ = get_or c.args.numbers.now c.loop-index.index 0 in
    record {
      kept = kept_more (IsMaterialized v c.args.state.now.kept)
          (IsMaterialized v c.loop-index.state.kept) (IsMaterialized v c.follow_number.new.state.kept)
          make c.args.turn slots c.args.numbers.now c.loop-index.index (omega (arith, c.loop-index-test.true))
          c.loop-index.invariant.kept
          (at_stores (λ (ts : List Table) (rs : Rows). (rows : NumberedRows)
          → Fits rows (projected_change ts rs v c.args.turn (n ∷ [])) → IsMaterialized v c.loop-index.state.kept rows
          → IsMaterialized v c.follow_number.new.state.kept
          (patched rows (projected_change ts rs v c.args.turn (n ∷ []))))
          (tables_in now) (tables_in stores) (rows_in now) (rows_in stores) c.loop-index.invariant.same_rows.tables
          c.loop-index.invariant.same_rows.rows c.in_ok-follow_number.ensures.kept);
      columns = c.in_ok-follow_number.ensures.columns ∙ c.loop-index.invariant.columns;
      links = kept_more (KeepsLinks l) (KeepsLinks c.loop-index.state.links)
          (KeepsLinks c.follow_number.new.state.links) (link_row l v) c.args.turn slots c.args.numbers.now
          c.loop-index.index (omega (arith, c.loop-index-test.true)) c.loop-index.invariant.links
          (subst (λ (h : List Datum → Option (List Datum)). (rows : NumberedRows)
          → Fits rows (map (shift_image h) (turned c.args.turn slots (n ∷ [])))
          → KeepsLinks c.loop-index.state.links rows
          → KeepsLinks c.follow_number.new.state.links
          (patched rows (map (shift_image h) (turned c.args.turn slots (n ∷ [])))))
          (links_same l c.loop-index.state.links v c.loop-index.invariant.form)
          (at_stores (λ (ts : List Table) (rs : Rows). (rows : NumberedRows)
          → Fits rows (link_change (rows_at rs 0) c.loop-index.state.links v c.args.turn (n ∷ []))
          → KeepsLinks c.loop-index.state.links rows
          → KeepsLinks c.follow_number.new.state.links
          (patched rows (link_change (rows_at rs 0) c.loop-index.state.links v c.args.turn (n ∷ []))))
          (tables_in now) (tables_in stores) (rows_in now) (rows_in stores) c.loop-index.invariant.same_rows.tables
          c.loop-index.invariant.same_rows.rows c.in_ok-follow_number.ensures.links));
      form = c.in_ok-follow_number.ensures.form ∙ c.loop-index.invariant.form;
      stale = c.follow_number.ensures.stale ∙ c.loop-index.invariant.stale;
      same_rows = still_same c.loop-index.invariant.same_rows c.follow_number.ensures.same_rows;
      visits = omega (
        arith,
        c.follow_number.ensures.visits,
        c.loop-index.invariant.visits,
        opened_next v c.args.arrival.now c.loop-index.index (row_of slots n)
            (tells_one v c.args.arrival.now slots c.args.numbers.now c.loop-index.index c.loop-index-test.true
            c.requires.known),
      );
    }

pub returns-in_err-follow_number-clause-visits : goal.returns-in_err-follow_number-clause-visits
returns-in_err-follow_number-clause-visits c =
    let v = c.args.view.now in
    let slots = rows_at (rows_in c.args.stores.now.items) 0 in
    omega (
      arith,
      c.follow_number.ensures.visits,
      c.loop-index.invariant.visits,
      opened_next v c.args.arrival.now c.loop-index.index (row_of slots (get_or c.args.numbers.now c.loop-index.index 0))
          (tells_one v c.args.arrival.now slots c.args.numbers.now c.loop-index.index c.loop-index-test.true
          c.requires.known),
      opened_grows c.args.arrival.now (c.loop-index.index + 1) (length c.args.numbers.now)
          (omega (arith, c.loop-index-test.true)),
    )

pub returns-clause-kept : goal.returns-clause-kept
returns-clause-kept c =
    let v = c.args.view.now in
    let stores = c.args.stores.now.items in
    kept_all (IsMaterialized v c.args.state.now.kept) (IsMaterialized v c.loop-index.state.kept)
    (projected_row v (side_by (tables_in stores) (rows_in stores) v)) c.args.turn (rows_at (rows_in stores) 0)
    c.args.numbers.now c.loop-index.index (omega (arith, c.loop-index-test.false)) c.loop-index.invariant.kept

pub returns-clause-links : goal.returns-clause-links
returns-clause-links c =
    let v = c.args.view.now in
    kept_all (KeepsLinks c.args.state.now.links) (KeepsLinks c.loop-index.state.links)
    (link_row c.args.state.now.links v) c.args.turn (rows_at (rows_in c.args.stores.now.items) 0) c.args.numbers.now
    c.loop-index.index (omega (arith, c.loop-index-test.false)) c.loop-index.invariant.links
