use Rattle.std.proofs.Common.{◌≡◌, ◌≤◌, ◌+◌, ◌*◌, length}
use Rattle.upkeep.specs.Stores.{HaveSameRows, Rows, rows_in, tables_in, visits_in}
use Rattle.upkeep.specs.Touched.{refers}
use Rattle.upkeep.specs.ViewStates.{AreCurrent, IsBefore, stale_in, width_in}
use Rattle.upkeep.proofs.LookedUpViews.{AreFollowing, referring_at}
use Rattle.upkeep.proofs.lookup_views.follow_lookups_of.Given as goal

abbrev pub invariant-loop-place : goal.invariant-loop-place
invariant-loop-place l = record {
  following :
      (old : Rows) → IsBefore l.table l.turn l.change old (rows_in l.fn.stores.items)
      → AreCurrent (tables_in l.fn.stores.items) old l.views l.fn.states.items
      → AreFollowing (tables_in l.fn.stores.items) old (rows_in l.fn.stores.items) l.place l.views l.states.items;
  stale : stale_in l.states.items ≡ stale_in l.fn.states.items;
  many : length l.states.items ≡ length l.fn.states.items;
  same_rows : HaveSameRows l.fn.stores.items l.stores.items;
  visits :
      visits_in l.stores.items
      ≤ visits_in l.fn.stores.items
      + l.place * referring_at (refers (width_in (tables_in l.fn.stores.items)) l.views l.table) l.table l.change
      (tables_in l.fn.stores.items) (rows_in l.fn.stores.items);
}
