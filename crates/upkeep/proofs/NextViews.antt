-- The next of the views that follow a change of a table, in a loop in which the stores keep their rows.
use Rattle.std.proofs.Common.{◌≡◌, ℕ, ◌+◌, ◌*◌, ◌<◌, ◌≤◌, List, get_or, length}
use Rattle.std.specs.Prelude.{slice_set}
use Rattle.view_lang.specs.Config.{Table, View}
use Rattle.row_keys.specs.Slots.{live}
use Rattle.row_keys.specs.Store.{Store}
use Rattle.row_keys.specs.declared.table_change.TableChange.{TableChange}
use Rattle.upkeep.specs.Stores.{HaveSameRows, Rows, main_slots, rows_in, tables_in, visits_in}
use Rattle.upkeep.specs.Touched.{count_opened, count_referring, opened_for}
use Rattle.upkeep.specs.ViewStates.{BecomesCurrent, IsBefore, IsCurrentWith, width_in}
use Rattle.upkeep.specs.declared.view_state.Turn.{Turn}
use Rattle.upkeep.specs.declared.view_state.ViewState.{ViewState}
use Rattle.upkeep.proofs.LookedUpViews.{
  AreFollowing,
  more_following,
  named_at,
  next_following,
  opened_more,
  referring_at,
  view_counted,
}
use Rattle.upkeep.proofs.StoreContents.{from_stores, hold_same, to_stores}

-- the view of this index, and its state
pub record IsNext (views : List View) (states : List ViewState) (place : ℕ) (v : View) (s : ViewState) : Type 0 where
  pub below : place < length views
  pub view : v ≡ get_or views place v
  pub state : s ≡ get_or states place s

module _ {stores now : List Store} (same : HaveSameRows stores now) {views : List View} {states : List ViewState}
    {place : ℕ} {v : View} {s : ViewState} (next : IsNext views states place v s) (n : ℕ) (c : TableChange) where
  -- It opens at most as many rows as refer to the keys by one of the views.
  pub opened_next : (last : List Store) → visits_in now ≤ visits_in stores + place * count_referring stores views n c
      → visits_in last ≤ visits_in now + count_opened now v n c
      → visits_in last ≤ visits_in stores + (place + 1) * count_referring stores views n c
  opened_next last so_far opened =
      let here : List Table → Rows → ℕ = λ ts rs. referring_at (opened_for (width_in ts) v n) n c ts rs in
      opened_more (visits_in stores) (visits_in now) (visits_in last) place (here (tables_in stores) (rows_in stores))
      (count_referring stores views n c) so_far
      (from_stores (hold_same same) (λ ts rs. visits_in last ≤ visits_in now + here ts rs) opened)
      (view_counted (width_in (tables_in stores)) views place v n (named_at n c (tables_in stores) (rows_in stores))
      (live (main_slots stores)) next.view next.below)

  module _ (u : Turn) (old : Rows) (before : IsBefore n u c old (rows_in stores))
      (following : AreFollowing (tables_in stores) old (rows_in stores) place views states) where
    pub before_next : IsBefore n u c old (rows_in now)
    before_next = to_stores (hold_same same) (λ (ts : List Table) (rs : Rows). IsBefore n u c old rs) before

    -- It is current with the rows before the change.
    pub current_next : IsCurrentWith (tables_in now) old v s
    current_next =
        to_stores (hold_same same) (λ (ts : List Table) (rs : Rows). IsCurrentWith ts old v s)
        (next_following (tables_in stores) old (rows_in stores) place views states v s next.below next.view next.state
        following)

    -- It has followed.
    pub more_next : (t : ViewState) → BecomesCurrent n u c now v s t
        → AreFollowing (tables_in stores) old (rows_in stores) (place + 1) views (slice_set states place t)
    more_next t becomes =
        more_following (tables_in stores) old (rows_in stores) place views states v t next.below next.view
        (from_stores (hold_same same) (λ (ts : List Table) (rs : Rows). IsCurrentWith ts rs v t)
        (becomes old before_next current_next)) following
