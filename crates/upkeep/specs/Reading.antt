-- What a view shows, read from its state.
use Rattle.std.specs.Prelude.{◌≡◌, ℕ, ◌<◌, All, List, Some, length, take}
use Rattle.std.specs.List.{filter_map}
use Rattle.std.specs.Map.{keys_of}
use Rattle.std.specs.Option.{unwrap_or}
use Rattle.values.specs.Datum.{Datum}
use Rattle.values.specs.Limits.{max_main_rows}
use Rattle.view_lang.specs.Config.{Table, View}
use Rattle.view_lang.specs.Images.{image}
use Rattle.view_lang.specs.Joined.{Side}
use Rattle.view_lang.specs.Laws.{Viewed}
use Rattle.view_lang.specs.Views.{view_rows}
use Rattle.group_order.specs.Ranked.{Keeps as KeepsRanked, Ranked, ranked_rows}
use Rattle.group_state.specs.Reading.{CanReadAll}
use Rattle.top_rows.specs.OrderedEntries.{OrderedEntries}
use Rattle.top_rows.specs.ViewOrder.{AreFirst, IsKeptFor}
use Rattle.row_keys.specs.Numbered.{numbered}
use Rattle.row_keys.specs.Slots.{IsLiveAt, Slot, live, row_of}
use Rattle.upkeep.specs.ViewStates.{IsMaterializedLive, projected_row}
use Rattle.upkeep.specs.declared.view_state.Materialized.{Materialized}
use Rattle.upkeep.specs.declared.view_state.Materialized.TheVariants as kept

-- the projected rows of the rows of these numbers
abbrev pub projected_at : View → Side → List Slot → List ℕ → List (List Datum)
projected_at v side slots numbers = filter_map (λ n. projected_row v side (row_of slots n)) numbers

-- What is stored for a view is computed from the live rows of the main table, which can be viewed.
pub record IsReadable (tables : List Table) (v : View) (side : Side) (slots : List Slot)
    (k : Materialized) : Type 0 where
  pub viewed : Viewed tables v side (live slots)
  pub kept : IsMaterializedLive v k side slots

-- This holds of the side table and of the rows wherever that is so.
abbrev pub WhereReadable : View → Materialized → (Side → List Slot → Type 0) → Type 0
WhereReadable v k P =
    (tables : List Table) (side : Side) (slots : List Slot) → IsReadable tables v side slots k → P side slots

-- The first rows of the groups of a view, as many as it asks for, are those that it shows.
abbrev pub GroupsAreShown : Type 0
GroupsAreShown =
    (tables : List Table) (v : View) (side : Side) (slots : List Slot) (g : Ranked) (made : List (List Datum))
    → IsReadable tables v side slots (kept.Groups g)
    → ((rows : List (List Datum)) → KeepsRanked g rows
    → CanReadAll g.groups.keys g.groups.columns g.ranking.outputs rows
    → made ≡ take (unwrap_or v.first max_main_rows) (ranked_rows g.groups.keys g.ranking rows))
    → made ≡ view_rows v side (live slots)

-- These are the numbers of the rows that a plain view shows, in their order. They are live, and each has a projected
-- row.
pub record AreShown (v : View) (side : Side) (slots : List Slot) (numbers : List ℕ) : Type 0 where
  pub there : All (λ n. n < length slots) numbers
  pub each_live : All (IsLiveAt slots) numbers
  pub each_projected : All (λ n. (row : List Datum) × (projected_row v side (row_of slots n) ≡ Some row)) numbers
  pub rows : projected_at v side slots numbers ≡ view_rows v side (live slots)
  pub many : length numbers ≡ length (view_rows v side (live slots))

-- So are those of the first live rows where the view shows each row, as many as it asks for. A view that shows all rows
-- asks for as many as there may be.
abbrev pub LiveAreShown : Type 0
LiveAreShown =
    (tables : List Table) (v : View) (side : Side) (slots : List Slot) → IsReadable tables v side slots kept.Live
    → AreShown v side slots (take (unwrap_or v.first max_main_rows) (keys_of (numbered slots)))

-- So are the first in a materialized order, as many as it asks for.
abbrev pub FirstsAreShown : Type 0
FirstsAreShown =
    (tables : List Table) (v : View) (side : Side) (slots : List Slot) (o : OrderedEntries) (numbers : List ℕ)
    → IsReadable tables v side slots (kept.Order o)
    → (IsKeptFor o (image (projected_row v side) (numbered slots))
    → AreFirst o.order (unwrap_or v.first max_main_rows) (image (projected_row v side) (numbered slots)) numbers)
    → AreShown v side slots numbers
