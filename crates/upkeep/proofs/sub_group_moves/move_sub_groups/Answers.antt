use Rattle.std.proofs.Common.{◌≡◌, ◌≤◌, ◌∙◌, All, List, [], ◌&&◌, ap, arith, get_or, length, refl, subst, sym}
use Rattle.std.specs.Prelude.{slice_set}
use Rattle.std.specs.BTreeMap.{is_at}
use Rattle.std.specs.List.{list_any}
use Rattle.std.specs.Map.{keys_of}
use Rattle.values.specs.Datum.{Datum}
use Rattle.values.specs.Limits.{max_main_rows}
use Rattle.values.specs.declared.key.Key.{Key}
use Rattle.view_lang.specs.Config.{Table}
use Rattle.view_lang.specs.ConfigRules.{IsView}
use Rattle.view_lang.specs.Rows.{IsRow}
use Rattle.view_lang.specs.World.{table_at}
use Rattle.group_order.specs.Ranked.{Keeps as KeepsRanked, Ranked}
use Rattle.group_state.specs.Keys.{tuple_cmp}
use Rattle.group_state.specs.Moves.{begins_with_one}
use Rattle.row_keys.specs.HiddenChanges.{NamesRows, named_keys}
use Rattle.row_keys.specs.Slots.{Slot, live}
use Rattle.row_keys.specs.Store.{Store, with_slots}
use Rattle.upkeep.specs.Inputs.{side_by}
use Rattle.upkeep.specs.Moves.{CanMove, TurnsSubGroups}
use Rattle.upkeep.specs.StoreLaws.{rows_length, rows_there, table_there}
use Rattle.upkeep.specs.Stores.{HaveSameRows, Rows, rows_at, rows_in, tables_in}
use Rattle.upkeep.specs.Swaps.{opposite, swapped}
use Rattle.upkeep.specs.ViewStates.{swapped_at}
use Rattle.upkeep.specs.declared.view_state.Turn.{Turn}
use Rattle.upkeep.specs.declared.view_state.Turn.TheVariants as turn
use Rattle.upkeep.proofs.FollowedLookups.{sides_swapped}
use Rattle.upkeep.proofs.MovedRows.{
  AreKeptBySubGroups,
  KeepsOthers,
  Laws,
  all_came,
  all_went,
  can_move,
  can_turn,
  grouped,
  kept_back,
  kept_of,
  linked_rows,
  moved_alike,
  on_ok,
}
use Rattle.upkeep.proofs.MovedSubGroups.{still_can}
use Rattle.upkeep.proofs.SideEdits.{Changed, changed_tables, restored}
use Rattle.upkeep.proofs.StoreContents.{Hold, hold_lent, to_stores}
use Rattle.upkeep.proofs.SwappedRows.{names_rows}
use Rattle.upkeep.proofs.SwappedStores.{turned_rows}
use Rattle.upkeep.proofs.sub_group_moves.move_sub_groups.Goals as goal
use Rattle.upkeep.proofs.sub_group_moves.move_sub_groups.Goals.{After-swap}

pub named_cells-requires-clause-names : goal.named_cells-requires-clause-names
named_cells-requires-clause-names c =
    subst (NamesRows c.args.change.now)
    (rows_there c.args.stores.now.items c.args.table c.index-2.result.now c.index-2.ensures c.requires.there)
    (names_rows c.args.turn _ c.args.change.now _ c.requires.swaps)

-- The sub-groups are found, and the rows of the side table are those without the change, or with it, as they were.
module _ (c : After-swap) where
  abbrev stores : List Store
  stores = c.args.stores.now.items

  abbrev tables : List Table
  tables = tables_in stores

  abbrev before : Rows
  before = swapped_at c.args.table c.args.turn c.args.change.now (rows_in stores)

  abbrev went : List Store
  went = slice_set stores c.args.table c.swap.new.store

  changed : Changed stores c.args.table c.index_mut.result.now c.swap.new.store
  changed = record {
    is = c.index_mut.ensures.value;
    below = c.requires.there;
    same = ap (λ (x : Store). x.table) c.swap.ensures.slots;
  }

  hold_before : {lent : List Store} → lent ≡ went → Hold tables before lent
  hold_before is =
      subst (Hold tables before) (sym is) (record {
        tables_are = changed_tables changed;
        rows_are = turned_rows c.args.turn c.args.change.now changed c.swap.ensures.slots;
      })

  back : {s t : Store} {u : Turn} → s ≡ get_or went c.args.table s → u ≡ opposite c.args.turn
      → t ≡ with_slots s (swapped u c.args.change.now s.slots) → HaveSameRows stores (slice_set went c.args.table t)
  back {u = u} is other turned =
      restored changed (record { tables = refl; rows = refl }) is (swapped u c.args.change.now) turned
      (ap (λ (x : Turn). swapped x c.args.change.now c.swap.new.store.slots) other ∙ c.swap.ensures.back)

  laws : Laws
  laws = record {
    values = c.image_law.ensures.values;
    live = c.numbers_law.ensures.live;
    left_out = c.sub_group_law.ensures.left_out;
  }

  kept : AreKeptBySubGroups tables c.args.view.now c.args.sub_groups.now c.args.kept.now c.in-Groups.groups
      (rows_at (rows_in stores) 0)
  kept =
      let main : List Slot = rows_at (rows_in stores) 0 in
      let here : Store = c.index.result.now in
      let slots : main ≡ here.slots = rows_there stores 0 here c.index.ensures c.requires.main in
      let table : table_at tables 0 ≡ here.table = table_there stores 0 here c.index.ensures c.requires.main in
      record {
        is = c.in-Groups.is;
        right = c.requires.right;
        view = c.requires.view;
        held =
            subst (λ (t : Table). All (IsRow t.columns) (live main)) (sym table)
            (subst (λ (ss : List Slot). All (IsRow here.table.columns) (live ss)) (sym slots) c.rows_law.ensures.held);
        few =
            subst (λ (ss : List Slot). length (live ss) ≤ max_main_rows) (sym slots)
            (omega (arith, c.rows_law.ensures.few, c.rows_law.ensures.table.few));
        linked = c.requires.links;
      }

  -- Groups hold the projected rows of the main table's rows, but for those of the sub-groups that are out.
  abbrev Keep : Rows → Ranked → List (List Key) → Type 0
  Keep held g out =
      KeepsOthers tables held c.args.view.now c.args.sub_groups.now (linked_rows laws kept) g out

  all_in : Keep before c.in-Groups.groups []
  all_in = kept_of laws kept (side_by tables before c.args.view.now) c.requires.kept

  movable : CanMove tables c.args.view.now c.args.sub_groups.now c.in-Groups.groups
  movable = can_move laws kept _ c.requires.kept

  cells_named : c.deref.result.now
      ≡ named_keys (table_at tables c.args.table) c.args.change.now (rows_at (rows_in stores) c.args.table)
  cells_named =
      let here : Store = c.index-2.result.now in
      c.deref.ensures.value ∙ c.in_ok-cells.ensures
      ∙ ap (λ (t : Table). named_keys t c.args.change.now here.slots)
      (sym (table_there stores c.args.table here c.index-2.ensures c.requires.there))
      ∙ ap (λ (ss : List Slot). named_keys (table_at tables c.args.table) c.args.change.now ss)
      (sym (rows_there stores c.args.table here c.index-2.ensures c.requires.there))

  -- The projected rows of rows of other sub-groups are the same before the change and after it.
  others_same : (g : Ranked) → Keep before g c.in_ok-tuples.tuples.items
      → Keep (rows_in stores) g c.in_ok-tuples.tuples.items
  others_same g keeps =
      let tuples : List (List Key) = c.in_ok-tuples.tuples.items in
      subst (KeepsRanked g)
      (moved_alike laws kept (side_by tables before c.args.view.now) (side_by tables (rows_in stores) c.args.view.now)
      (named_keys (table_at tables c.args.table) c.args.change.now (rows_at (rows_in stores) c.args.table)) tuples
      (subst (λ (ds : List Datum). (t : List Key) → list_any (is_at (tuple_cmp t)) tuples
      ≡ (begins_with_one ds t && list_any (is_at (tuple_cmp t)) (keys_of c.args.sub_groups.now.groups.groups)))
      cells_named c.in_ok-tuples.ensures.tuples)
      (sides_swapped tables c.args.view.now.lookup c.args.table c.args.turn c.args.change.now (rows_in stores)
      (omega (arith, c.requires.there, rows_length stores)) c.requires.looks)) keeps

  -- The sub-groups were removed.
  gone : {lent : List Store} {named later : List (List Key)} (g : Ranked) → lent ≡ went
      → named ≡ c.in_ok-tuples.tuples.items → later ≡ c.in_ok-tuples.tuples.items
      → TurnsSubGroups lent c.args.view.now c.args.sub_groups.now named turn.Go c.in-Groups.groups g
      → Keep (rows_in stores) g later
  gone {named = named} g is are same turns =
      subst (Keep (rows_in stores) g) (sym same)
      (others_same g (subst (Keep before g) are
      (all_went (hold_before is) (grouped laws kept) named c.in-Groups.groups g turns all_in)))

pub turn_sub_groups-gone-requires-clause-view : goal.turn_sub_groups-gone-requires-clause-view
turn_sub_groups-gone-requires-clause-view c =
    let place = (goal.at.turn_sub_groups-gone-requires-clause-view c).After-swap in
    to_stores (hold_before place c.deref-2.ensures.value) (λ (ts : List Table) (rs : Rows). IsView ts c.args.view.now)
    c.requires.view

pub turn_sub_groups-gone-requires-clause-can : goal.turn_sub_groups-gone-requires-clause-can
turn_sub_groups-gone-requires-clause-can c =
    let place = (goal.at.turn_sub_groups-gone-requires-clause-can c).After-swap in
    to_stores (hold_before place c.deref-2.ensures.value)
    (λ (ts : List Table) (rs : Rows). CanMove ts c.args.view.now c.args.sub_groups.now c.in-Groups.groups)
    (movable place)

pub turn_sub_groups-gone-requires-clause-kept : goal.turn_sub_groups-gone-requires-clause-kept
turn_sub_groups-gone-requires-clause-kept c =
    let place = (goal.at.turn_sub_groups-gone-requires-clause-kept c).After-swap in
    can_turn (hold_before place c.deref-2.ensures.value) (grouped (laws place) (kept place)) turn.Go
    c.deref-3.result.now c.in-Groups.groups (all_in place)

pub returns-in_err-gone-clause-same_rows : goal.returns-in_err-gone-clause-same_rows
returns-in_err-gone-clause-same_rows c =
    back (goal.at.returns-in_err-gone-clause-same_rows c).After-swap c.index_mut-2.ensures.value c.opposite.ensures
    c.swap-2.ensures.slots

pub returns-clause-same_rows : goal.returns-clause-same_rows
returns-clause-same_rows c =
    back (goal.at.returns-clause-same_rows c).After-swap c.index_mut-2.ensures.value c.opposite.ensures
    c.swap-2.ensures.slots

pub turn_sub_groups-requires-clause-view : goal.turn_sub_groups-requires-clause-view
turn_sub_groups-requires-clause-view c =
    let place = (goal.at.turn_sub_groups-requires-clause-view c).After-swap in
    let same = back place c.index_mut-2.ensures.value c.opposite.ensures c.swap-2.ensures.slots in
    to_stores (hold_lent same c.deref-4.ensures.value) (λ (ts : List Table) (rs : Rows). IsView ts c.args.view.now)
    c.requires.view

pub turn_sub_groups-requires-clause-can : goal.turn_sub_groups-requires-clause-can
turn_sub_groups-requires-clause-can c =
    let place = (goal.at.turn_sub_groups-requires-clause-can c).After-swap in
    let same = back place c.index_mut-2.ensures.value c.opposite.ensures c.swap-2.ensures.slots in
    to_stores (hold_lent same c.deref-4.ensures.value)
    (λ (ts : List Table) (rs : Rows). CanMove ts c.args.view.now c.args.sub_groups.now
    c.turn_sub_groups-gone.new.groups)
    (still_can (tables place) c.args.view.now c.args.sub_groups.now c.in-Groups.groups c.turn_sub_groups-gone.new.groups
    c.in_ok-gone.ensures.keys c.in_ok-gone.ensures.columns (movable place))

pub turn_sub_groups-requires-clause-kept : goal.turn_sub_groups-requires-clause-kept
turn_sub_groups-requires-clause-kept c =
    let place = (goal.at.turn_sub_groups-requires-clause-kept c).After-swap in
    let same = back place c.index_mut-2.ensures.value c.opposite.ensures c.swap-2.ensures.slots in
    can_turn (hold_lent same c.deref-4.ensures.value) (grouped (laws place) (kept place)) turn.Come c.deref-5.result.now
    c.turn_sub_groups-gone.new.groups
    (gone place c.turn_sub_groups-gone.new.groups c.deref-2.ensures.value c.deref-3.ensures.value
    c.deref-5.ensures.value c.in_ok-gone.ensures.kept)

pub returns-clause-kept : goal.returns-clause-kept
returns-clause-kept c =
    let place = (goal.at.returns-clause-kept c).After-swap in
    let same = back place c.index_mut-2.ensures.value c.opposite.ensures c.swap-2.ensures.slots in
    on_ok _ _ _ _ _ c.turn_sub_groups.result
    (λ came keys columns ranking.
    kept_back (laws place) (kept place) c.turn_sub_groups.new.groups
    (side_by (tables place) (rows_in (stores place)) c.args.view.now) _ c.requires.kept
    (keys ∙ c.in_ok-gone.ensures.keys) (columns ∙ c.in_ok-gone.ensures.columns)
    (ranking ∙ c.turn_sub_groups-gone.ensures.ranking)
    (all_came (hold_lent same c.deref-4.ensures.value) (grouped (laws place) (kept place)) c.deref-5.result.now
    c.turn_sub_groups-gone.new.groups c.turn_sub_groups.new.groups came
    (gone place c.turn_sub_groups-gone.new.groups c.deref-2.ensures.value c.deref-3.ensures.value
    c.deref-5.ensures.value c.in_ok-gone.ensures.kept)))
    c.turn_sub_groups.ensures.kept c.turn_sub_groups.ensures.keys c.turn_sub_groups.ensures.columns
    c.turn_sub_groups.ensures.ranking
