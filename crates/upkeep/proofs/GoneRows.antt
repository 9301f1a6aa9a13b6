-- A table of which rows are released that aren't live: views are computed from the same rows as before.
use Rattle.std.proofs.Common.{◌≡◌, ℕ, zero, suc, ◌<◌, List, [], ◌∷◌, length, refl, ap, subst, sym, ◌∙◌}
use Rattle.std.specs.Prelude.{get_or, slice_set}
use Rattle.view_lang.specs.Config.{Table, View}
use Rattle.view_lang.specs.Shifts.{NumberedRows}
use Rattle.view_lang.specs.Views.{side_in}
use Rattle.view_lang.specs.World.{World}
use Rattle.row_keys.specs.NumberLaws.{ReleasedUnseen}
use Rattle.row_keys.specs.Numbered.{numbered}
use Rattle.row_keys.specs.Slots.{AllOut, Slot, contents_of, released}
use Rattle.row_keys.specs.Store.{Store, with_slots}
use Rattle.upkeep.specs.LiveParts.{AreLive}
use Rattle.upkeep.specs.Stores.{Rows, rows_at, rows_in, tables_in, visits_in, world_of}
use Rattle.upkeep.specs.StoreLaws.{rows_set, rows_there, tables_set}
use Rattle.upkeep.specs.Stores.{released_at}
use Rattle.upkeep.specs.ViewStates.{AreCurrent, EachIsCurrent, IsCurrent}
use Rattle.upkeep.specs.declared.view_state.ViewState.{ViewState}
use Rattle.upkeep.proofs.SideEdits.{Changed, changed_of}

world_same : (rows : Rows) (n : ℕ) (x : List Slot) → contents_of x ≡ contents_of (rows_at rows n)
    → world_of (slice_set rows n x) ≡ world_of rows
world_same [] n x same = refl
world_same (r ∷ rs) zero x same = ap (λ c. c ∷ world_of rs) same
world_same (r ∷ rs) (suc n) x same = ap (λ cs. contents_of r ∷ cs) (world_same rs n x same)

main_same : (rows : Rows) (n : ℕ) (x : List Slot) → numbered x ≡ numbered (rows_at rows n)
    → numbered (rows_at (slice_set rows n x) 0) ≡ numbered (rows_at rows 0)
main_same [] n x same = refl
main_same (r ∷ rs) zero x same = same
main_same (r ∷ rs) (suc n) x same = refl

current_seen :
    (tables : List Table) (old new : Rows) (live : NumberedRows) (views : List View) (states : List ViewState)
    → world_of new ≡ world_of old → EachIsCurrent tables old live views states
    → EachIsCurrent tables new live views states
current_seen tables old new live [] [] same each = tt
current_seen tables old new live [] (s ∷ ss) same each = absurd each
current_seen tables old new live (v ∷ vs) [] same each = absurd each
current_seen tables old new live (v ∷ vs) (s ∷ ss) same each = (
  subst (λ (w : World). IsCurrent tables v (side_in tables w v.lookup) s live) (sym same) each.0,
  current_seen tables old new live vs ss same each.1,
)

-- they are rows of the store of that table
pub out_there :
    (stores : List Store) (n : ℕ) (s : Store) (ns : List ℕ) → s ≡ get_or stores n s → n < length stores
    → AllOut ns (rows_at (rows_in stores) n) → AllOut ns s.slots
out_there stores n s ns is below out = subst (λ (ss : List Slot). AllOut ns ss) (rows_there stores n s is below) out

module _ (unseen : ReleasedUnseen) (stores : List Store) (n : ℕ) (s t : Store) (ns : List ℕ)
    (is : s ≡ get_or stores n s) (below : n < length stores) (out : AllOut ns (rows_at (rows_in stores) n))
    (gone : t ≡ with_slots s (released ns s.slots)) where
  slots_there : rows_at (rows_in stores) n ≡ s.slots
  slots_there = rows_there stores n s is below

  pub changed : Changed stores n s t
  changed = record { is = is; below = below; same = ap (λ (x : Store). x.table) gone }

  new_slots : t.slots ≡ released ns (rows_at (rows_in stores) n)
  new_slots = ap (λ (x : Store). x.slots) gone ∙ ap (λ ss. released ns ss) (sym slots_there)

  pub rows_released : rows_in (slice_set stores n t) ≡ released_at n ns (rows_in stores)
  rows_released = rows_set stores n t ∙ ap (λ ss. slice_set (rows_in stores) n ss) new_slots

  pub tables_same : tables_in (slice_set stores n t) ≡ tables_in stores
  tables_same = tables_set stores n s t is (ap (λ (x : Store). x.table) gone)

  world_kept : world_of (released_at n ns (rows_in stores)) ≡ world_of (rows_in stores)
  world_kept =
      world_same (rows_in stores) n (released ns (rows_at (rows_in stores) n))
      (unseen ns (rows_at (rows_in stores) n) out).0

  numbered_kept : numbered (rows_at (released_at n ns (rows_in stores)) 0) ≡ numbered (rows_at (rows_in stores) 0)
  numbered_kept =
      main_same (rows_in stores) n (released ns (rows_at (rows_in stores) n))
      (unseen ns (rows_at (rows_in stores) n) out).1

  pub live_released : (views : List View) (states : List ViewState) → AreLive stores views states
      → AreLive (slice_set stores n t) views states
  live_released views states are = record {
    these = changed_of changed are.these;
    current =
        let rows = released_at n ns (rows_in stores) in
        subst (λ (rs : Rows). AreCurrent (tables_in (slice_set stores n t)) rs views states) (sym rows_released)
        (subst (λ (ts : List Table). AreCurrent ts (released_at n ns (rows_in stores)) views states) (sym tables_same)
        (subst (λ (xs : NumberedRows).
        EachIsCurrent (tables_in stores) (released_at n ns (rows_in stores)) xs views states) (sym numbered_kept)
        (current_seen (tables_in stores) (rows_in stores) (released_at n ns (rows_in stores))
        (numbered (rows_at (rows_in stores) 0)) views states world_kept are.current)));
  }

visits_kept : (stores : List Store) (n : ℕ) (s t : Store) → s ≡ get_or stores n s → t.visits ≡ s.visits
    → visits_in (slice_set stores n t) ≡ visits_in stores
visits_kept [] n s t is same = refl
visits_kept (x ∷ xs) zero s t is same = same ∙ ap (λ (y : Store). y.visits) is
visits_kept (x ∷ xs) (suc n) s t is same = refl

pub visits_released : (stores : List Store) (n : ℕ) (s t : Store) (ns : List ℕ) → s ≡ get_or stores n s
    → t ≡ with_slots s (released ns s.slots) → visits_in (slice_set stores n t) ≡ visits_in stores
visits_released stores n s t ns is gone = visits_kept stores n s t is (ap (λ (x : Store). x.visits) gone)
