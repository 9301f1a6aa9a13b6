use Rattle.std.proofs.Common.{◌<◌, ◌≤◌, ◌+◌, All, List, ap, arith, length, map, subst, sym}
use Rattle.std.specs.Prelude.{slice_set}
use Rattle.values.specs.Keys.{datum_of_key}
use Rattle.view_lang.specs.Config.{Table}
use Rattle.view_lang.specs.Shifts.{Fits, IsFew, Shift}
use Rattle.view_lang.specs.TableRules.{IsSideTable}
use Rattle.view_lang.specs.World.{table_at}
use Rattle.row_keys.specs.Slots.{Slot}
use Rattle.row_keys.specs.Store.{Store}
use Rattle.upkeep.specs.StoreLaws.{rows_there, table_there}
use Rattle.upkeep.specs.Stores.{rows_at, rows_in, tables_in, visits_in}
use Rattle.upkeep.specs.Swaps.{CanSwap}
use Rattle.upkeep.specs.ViewStates.{IsMaterialized}
use Rattle.upkeep.proofs.ChangedStores.{still_same}
use Rattle.upkeep.proofs.FollowedLookups.{on_ok}
use Rattle.upkeep.proofs.RowByRow.{same_change}
use Rattle.upkeep.proofs.SidesByKey.{changes_in}
use Rattle.upkeep.proofs.SwappedStores.{kept_store}
use Rattle.upkeep.proofs.lookup_views.remake_rows.Goals as goal

pub side_rows-requires-clause-side : goal.side_rows-requires-clause-side
side_rows-requires-clause-side c =
    subst IsSideTable
    (table_there c.args.stores.now.items c.args.table c.index_mut.result.now c.index_mut.ensures.value c.requires.there)
    c.requires.side

pub side_rows-requires-clause-swaps : goal.side_rows-requires-clause-swaps
side_rows-requires-clause-swaps c =
    let stores = c.args.stores.now.items in
    subst (λ (t : Table). CanSwap c.args.turn t c.args.change.now c.index_mut.result.now.slots)
    (table_there stores c.args.table c.index_mut.result.now c.index_mut.ensures.value c.requires.there)
    (subst (λ (ss : List Slot). CanSwap c.args.turn (table_at (tables_in stores) c.args.table) c.args.change.now ss)
    (rows_there stores c.args.table c.index_mut.result.now c.index_mut.ensures.value c.requires.there)
    c.requires.swaps)

pub remake_numbers-requires-clause-main : goal.remake_numbers-requires-clause-main
remake_numbers-requires-clause-main c =
    let stores = c.args.stores.now.items in
    let kept = kept_store stores c.args.table c.index_mut.result.now c.side_rows.new.store c.index_mut.ensures.value
    c.side_rows.ensures.same in
    subst (λ (ss : List Store). 0 < length ss) (sym kept) c.requires.main

pub remake_numbers-requires-clause-there : goal.remake_numbers-requires-clause-there
remake_numbers-requires-clause-there c =
    let stores = c.args.stores.now.items in
    let kept = kept_store stores c.args.table c.index_mut.result.now c.side_rows.new.store c.index_mut.ensures.value
    c.side_rows.ensures.same in
    subst (λ (ss : List Store). All (λ n. n < length (rows_at (rows_in ss) 0)) c.args.numbers.now) (sym kept)
    c.requires.numbers

pub remake_numbers-requires-clause-fits : goal.remake_numbers-requires-clause-fits
remake_numbers-requires-clause-fits c =
    let stores = c.args.stores.now.items in
    let same = changes_in stores c.args.table c.args.turn c.args.change.now c.args.view.now
    (map datum_of_key c.args.keys.now) c.in_ok-sides.sides.before.entries c.in_ok-sides.sides.after.entries
    c.index_mut.result.now c.side_rows.new.store c.args.numbers.now c.index_mut.ensures.value c.requires.there
    c.side_rows.ensures.same c.in_ok-sides.ensures.before c.in_ok-sides.ensures.after c.requires.refer in
    let rows = c.requires.fits.0 in (
      rows,
      (
        c.requires.fits.1.0,
        subst (λ (change : List Shift). Fits rows change × IsFew rows change) same c.requires.fits.1.1,
      ),
    )

pub returns-clause-kept : goal.returns-clause-kept
returns-clause-kept c =
    let stores = c.args.stores.now.items in
    let same = changes_in stores c.args.table c.args.turn c.args.change.now c.args.view.now
    (map datum_of_key c.args.keys.now) c.in_ok-sides.sides.before.entries c.in_ok-sides.sides.after.entries
    c.index_mut.result.now c.side_rows.new.store c.args.numbers.now c.index_mut.ensures.value c.requires.there
    c.side_rows.ensures.same c.in_ok-sides.ensures.before c.in_ok-sides.ensures.after c.requires.refer in
    on_ok _ _ c.remake_numbers.result
    (λ made. same_change (IsMaterialized c.args.view.now c.args.kept.now) (IsMaterialized c.args.view.now c.remake_numbers.new.kept) _ _
    (sym same) made)
    c.remake_numbers.ensures.kept

pub returns-clause-same_rows : goal.returns-clause-same_rows
returns-clause-same_rows c =
    let stores = c.args.stores.now.items in
    let kept = kept_store stores c.args.table c.index_mut.result.now c.side_rows.new.store c.index_mut.ensures.value
    c.side_rows.ensures.same in
    still_same (record { tables = ap tables_in kept; rows = ap rows_in kept }) c.remake_numbers.ensures.same_rows

pub returns-clause-visits : goal.returns-clause-visits
returns-clause-visits c =
    let stores = c.args.stores.now.items in
    let kept = kept_store stores c.args.table c.index_mut.result.now c.side_rows.new.store c.index_mut.ensures.value
    c.side_rows.ensures.same in
    subst (λ (ss : List Store). visits_in c.remake_numbers.new.stores.items
    ≤ visits_in ss + length c.args.numbers.now) kept c.remake_numbers.ensures.visits

pub returns-in_err-sides-clause-same_rows : goal.returns-in_err-sides-clause-same_rows
returns-in_err-sides-clause-same_rows c =
    let stores = c.args.stores.now.items in
    let kept = kept_store stores c.args.table c.index_mut.result.now c.side_rows.new.store c.index_mut.ensures.value
    c.side_rows.ensures.same in
    record { tables = ap tables_in kept; rows = ap rows_in kept }

pub returns-in_err-sides-clause-visits : goal.returns-in_err-sides-clause-visits
returns-in_err-sides-clause-visits c =
    let stores = c.args.stores.now.items in
    let kept = kept_store stores c.args.table c.index_mut.result.now c.side_rows.new.store c.index_mut.ensures.value
    c.side_rows.ensures.same in
    subst (λ (ss : List Store). visits_in (slice_set stores c.args.table c.side_rows.new.store)
    ≤ visits_in ss + length c.args.numbers.now) kept (omega arith)
