use Rattle.std.proofs.Common.{◌≡◌, ◌<◌, ap, length, subst, sym, ◌∙◌}
use Rattle.view_lang.specs.Config.{Table}
use Rattle.view_lang.specs.World.{table_at}
use Rattle.row_keys.specs.HiddenChanges.{forgotten, shown}
use Rattle.row_keys.specs.Slots.{live}
use Rattle.row_keys.specs.Store.{Store}
use Rattle.row_keys.specs.TableChanges.{CanGoBack, back}
use Rattle.upkeep.specs.LiveParts.{LiveParts}
use Rattle.upkeep.specs.Stores.{rows_at, rows_in, tables_in}
use Rattle.upkeep.specs.Swaps.{CanSwap}
use Rattle.upkeep.specs.declared.view_state.Turn.TheVariants as turn
use Rattle.upkeep.proofs.ChangedStores.{store_can_go_back}
use Rattle.upkeep.proofs.SwappedRows.{side_change}
use Rattle.upkeep.proofs.SideEdits.{
  Changed,
  can_follow,
  changed_inside,
  forgotten_is,
  forgotten_live,
  found_slots,
  opened_before,
  opened_below,
  opened_live,
  restored,
  restored_live,
  restored_tables,
  shrunk_live,
  shrunk_rows,
  stayed,
  swaps_found,
  went_back,
}
use Rattle.upkeep.proofs.live_tables.LiveTables.go_back_side.Goals as goal
use Rattle.upkeep.proofs.live_tables.LiveTables.go_back_side.Goals.{After-swap}

pub swap-requires : goal.swap-requires
swap-requires c = (
  side_change c.args.table c.args.change.now c.requires.side c.requires.kind,
  store_can_go_back c.self.inside.stores.items c.args.table c.index_mut.result.now c.args.change.now
      c.index_mut.ensures.value
      (subst (λ (p : LiveParts). c.args.table < length p.stores) (sym c.self.view_is) c.requires.there)
      (subst (λ (p : LiveParts). CanGoBack (table_at (tables_in p.stores) c.args.table) c.args.change.now
      (rows_at (rows_in p.stores) c.args.table)) (sym c.self.view_is) c.requires.can),
)

-- the store of the side table, of which the change is hidden
module _ (c : After-swap) where
  changed : Changed c.self.inside.stores.items c.args.table c.index_mut.result.now c.swap.new.store
  changed =
      changed_inside c.self.view_is c.requires.there c.index_mut.ensures.value
      (ap (λ (s : Store). s.table) c.swap.ensures.slots)

  same : live c.index_mut.result.now.slots ≡ live (shown c.args.change.now c.swap.new.store.slots)
  same = ap live (sym c.swap.ensures.back)

  can : CanSwap turn.Go c.swap.new.store.table c.args.change.now c.swap.new.store.slots
  can =
      subst (λ (t : Table). CanSwap turn.Go t c.args.change.now c.swap.new.store.slots) (sym changed.same)
      c.swap.ensures.again

pub follow_lookups-requires : goal.follow_lookups-requires
follow_lookups-requires c =
    let place = goal.at.follow_lookups-requires c in
    let can = can_follow (changed place.After-swap) turn.Go c.args.change.now c.deref.ensures.value c.self.invariant
    c.swap.ensures.again (same place.After-swap) in
    record { of = can.these; side = c.requires.side; there = can.there; swaps = can.swaps; current = can.current }

-- The views followed: the rows that the change had added are removed.
pub forget-requires : goal.forget-requires
forget-requires c =
    let hidden = swaps_found (changed (goal.at.forget-requires c).After-swap) c.in-Ok.ensures.same_rows
    c.index_mut-in-Ok.ensures.value turn.Go c.args.change.now c.swap.ensures.again in
    (hidden.0, hidden.1.can_show)

pub invariant_of-self : goal.invariant_of-self
invariant_of-self c =
    let place = goal.at.invariant_of-self c in
    let found = found_slots (changed place.After-swap) c.in-Ok.ensures.same_rows c.index_mut-in-Ok.ensures.value in
    let shrunk : Changed c.follow_lookups.new.stores.items c.args.table c.index_mut-in-Ok.result.now c.forget.new.self =
    record {
      is = c.index_mut-in-Ok.ensures.value;
      below = opened_below (changed place.After-swap) c.in-Ok.ensures.same_rows;
      same = ap (λ (s : Store). s.table) c.forget.ensures;
    } in
    shrunk_live shrunk c.requires.side
    (ap (λ (s : Store). live s.slots) c.forget.ensures ∙ ap (λ slots. live (forgotten c.args.change.now slots)) found
    ∙ forgotten_live c.swap.new.store c.args.change.now (can place.After-swap) ∙ ap live (sym found))
    (opened_live (changed place.After-swap) c.in-Ok.ensures.same_rows (rw c.deref.ensures.value at c.in-Ok.ensures.kept)
    (same place.After-swap) c.self.invariant)

pub returns-in-Ok : goal.returns-in-Ok
returns-in-Ok c =
    let swapped = (goal.at.returns-in-Ok c).After-swap in
    rw (← c.self.view_is)
    (went_back
    (shrunk_rows (changed swapped) c.in-Ok.ensures.same_rows c.index_mut-in-Ok.ensures.value
    (forgotten c.args.change.now) c.forget.ensures (back c.args.change.now)
    (forgotten_is c.index_mut.result.now c.swap.new.store c.args.change.now (can swapped) c.swap.ensures.back))
    (restored_tables (changed swapped) c.in-Ok.ensures.same_rows c.index_mut-in-Ok.ensures.value
    (forgotten c.args.change.now) c.forget.ensures)
    c.in-Ok.ensures.stale
    (opened_before (changed swapped) c.args.change.now c.self.inside.views.items c.requires.side
    c.follow_lookups.new.stores.items c.forget.new.self (ap (λ (s : Store). s.slots) c.swap.ensures.slots)
    (rw c.deref.ensures.value at c.in-Ok.ensures.visits)))

-- Memory for the views is refused: the change is shown again.
pub swap-requires-in-Err : goal.swap-requires-in-Err
swap-requires-in-Err c =
    swaps_found (changed (goal.at.swap-requires-in-Err c).After-swap) c.in-Err.ensures.same_rows
    c.index_mut-in-Err.ensures.value turn.Go c.args.change.now c.swap.ensures.again

pub invariant_of-self-in-Err : goal.invariant_of-self-in-Err
invariant_of-self-in-Err c =
    let place = goal.at.invariant_of-self-in-Err c in
    restored_live (changed place.After-swap) c.in-Err.ensures.same_rows c.index_mut-in-Err.ensures.value
    (shown c.args.change.now) c.swap-in-Err.ensures.slots (rw c.deref.ensures.value at c.in-Err.ensures.err)
    (same place.After-swap) c.swap.ensures.back c.self.invariant

pub returns-in-Err : goal.returns-in-Err
returns-in-Err c =
    rw (← c.self.view_is)
    (stayed
    (restored (changed (goal.at.returns-in-Err c).After-swap) c.in-Err.ensures.same_rows
    c.index_mut-in-Err.ensures.value (shown c.args.change.now) c.swap-in-Err.ensures.slots c.swap.ensures.back))
