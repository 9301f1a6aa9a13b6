use Rattle.std.proofs.Common.{◌≡◌, ◌≤◌, ◌+◌, take}
use Rattle.view_lang.specs.Shifts.{Fits, NumberedRows, patched}
use Rattle.upkeep.specs.Arrivals.{opened_first}
use Rattle.upkeep.specs.Stores.{HaveSameRows, rows_at, rows_in, tables_in, visits_in}
use Rattle.upkeep.specs.ViewStates.{IsMaterialized, KeepsLinks, columns_in, form_of, link_change, projected_change}
use Rattle.upkeep.proofs.follow.follow_numbers.Given as goal

abbrev pub invariant-loop-index : goal.invariant-loop-index
invariant-loop-index l = record {
  kept :
      (rows : NumberedRows)
      → Fits rows (projected_change (tables_in l.fn.stores.items) (rows_in l.fn.stores.items) l.view l.turn l.numbers)
      → IsMaterialized l.view l.fn.state.kept rows
      → IsMaterialized l.view l.state.kept (patched rows (take l.index
      (projected_change (tables_in l.fn.stores.items) (rows_in l.fn.stores.items) l.view l.turn l.numbers)));
  columns : columns_in l.state.kept ≡ columns_in l.fn.state.kept;
  links :
      (rows : NumberedRows)
      → Fits rows (link_change (rows_at (rows_in l.fn.stores.items) 0) l.fn.state.links l.view l.turn l.numbers)
      → KeepsLinks l.fn.state.links rows
      → KeepsLinks l.state.links (patched rows (take l.index
      (link_change (rows_at (rows_in l.fn.stores.items) 0) l.fn.state.links l.view l.turn l.numbers)));
  form : form_of l.state.links ≡ form_of l.fn.state.links;
  stale : l.state.stale ≡ l.fn.state.stale;
  same_rows : HaveSameRows l.fn.stores.items l.stores.items;
  visits : visits_in l.stores.items ≤ visits_in l.fn.stores.items + opened_first l.arrival l.index;
}
