use Rattle.std.proofs.Common.{◌≡◌, ◌∷◌, [], length}
use Rattle.view_lang.specs.Shifts.{Fits, NumberedRows, patched}
use Rattle.upkeep.specs.Stores.{rows_at, rows_in, tables_in}
use Rattle.upkeep.specs.ViewStates.{EachIsCurrent, stale_in, turned}
use Rattle.upkeep.proofs.FollowedViews.{AreFollowed}
use Rattle.upkeep.proofs.all_views.follow_stored.Given as goal

abbrev pub invariant-loop-place : goal.invariant-loop-place
invariant-loop-place l = record {
  followed :
      (rows : NumberedRows) → Fits rows (turned l.turn (rows_at (rows_in l.stores) 0) (l.number ∷ []))
      → EachIsCurrent (tables_in l.stores) (rows_in l.stores) rows l.views l.fn.states.items
      → AreFollowed (tables_in l.stores) (rows_in l.stores) rows
      (patched rows (turned l.turn (rows_at (rows_in l.stores) 0) (l.number ∷ []))) l.place l.views l.states.items;
  stale : stale_in l.states.items ≡ stale_in l.fn.states.items;
  many : length l.states.items ≡ length l.fn.states.items;
}
