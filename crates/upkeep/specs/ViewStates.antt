-- What is stored for a view.
use Rattle.std.specs.Prelude.{
  ◌≡◌,
  ℕ,
  suc,
  true,
  false,
  ◌<◌,
  ◌||◌,
  All,
  Bool,
  List,
  [],
  ◌∷◌,
  Option,
  None,
  Some,
  get_or,
  length,
  map,
  nat_eq,
  slice_set,
}
use Rattle.std.specs.Map.{values_of}
use Rattle.std.specs.Option.{option_map}
use Rattle.values.specs.Datum.{Datum}
use Rattle.view_lang.specs.Cells.{cell_at}
use Rattle.view_lang.specs.Config.{Table, View}
use Rattle.view_lang.specs.Images.{image, shift_image}
use Rattle.view_lang.specs.Joined.{Side}
use Rattle.view_lang.specs.Outputs.{Outputs, columns, groups}
use Rattle.view_lang.specs.Shifts.{NumberedRows, Shift, shift}
use Rattle.view_lang.specs.Views.{passing_row, shown_row}
use Rattle.view_lang.specs.World.{table_at}
use Rattle.view_lang.specs.declared.view.Lookup.{Lookup}
use Rattle.view_lang.specs.declared.view.Missing.{Missing}
use Rattle.view_lang.specs.declared.view.Missing.TheVariants as missing
use Rattle.view_lang.specs.declared.view.OrderBy.{OrderBy}
use Rattle.group_order.specs.Ranked.{Keeps as KeepsRanked, ranking_by}
use Rattle.group_state.specs.Aggregates.{IsAccumulated as IsKeptColumn}
use Rattle.group_state.specs.declared.accumulated_columns.AccumulatedColumn.{AccumulatedColumn}
use Rattle.lookups.specs.Keeping.{Keeps as KeepsReferrers}
use Rattle.sub_groups.specs.Moved.{is_moved}
use Rattle.sub_groups.specs.SubGroups.{AreSubGroups, KeepsSubGroups, sub_row}
use Rattle.top_rows.specs.Keeping.{Keeps as KeepsOrder}
use Rattle.row_keys.specs.Numbered.{come, gone, numbered}
use Rattle.row_keys.specs.Slots.{Slot, last_numbers, live, row_of}
use Rattle.row_keys.specs.Store.{Store}
use Rattle.upkeep.specs.Inputs.{side_by, side_from}
use Rattle.upkeep.specs.Stores.{Rows, rows_at, rows_in, tables_in}
use Rattle.upkeep.specs.Swaps.{swapped}
use Rattle.row_keys.specs.declared.table_change.TableChange.{TableChange}
use Rattle.upkeep.specs.declared.view_state.Materialized.{Materialized}
use Rattle.upkeep.specs.declared.view_state.Materialized.TheVariants as kept
use Rattle.upkeep.specs.declared.view_state.Links.{Links}
use Rattle.upkeep.specs.declared.view_state.Links.TheVariants as links
use Rattle.upkeep.specs.declared.view_state.Turn.{Turn}
use Rattle.upkeep.specs.declared.view_state.Turn.TheVariants as turn
use Rattle.upkeep.specs.declared.view_state.ViewState.{ViewState}

-- What a view makes of a row of the main table: the row that a plain view shows of it, or the joined row that is
-- grouped.
abbrev pub projected_by : Outputs → Option (List Datum) → Option (List Datum)
projected_by (columns outputs) joined = option_map (shown_row outputs) joined
projected_by (groups by outputs having) joined = joined

-- the projected row of a row of the main table; `None` where the view leaves it out
abbrev pub projected_row : View → Side → List Datum → Option (List Datum)
projected_row v side row = projected_by v.outputs (passing_row v side row)

-- whether a row for which the side table has no row is in the view
abbrev pub stays : Missing → Bool
stays missing.Null = true
stays missing.Drop = false

-- whether no row is left out for want of a row of a side table
abbrev pub leaves_none : Option Lookup → Bool
leaves_none None = true
leaves_none (Some l) = stays l.missing

abbrev pub is_plain : Outputs → Bool
is_plain (columns outputs) = true
is_plain (groups by outputs having) = false

-- A view shows each row of the main table in the order of row numbers: it is plain, has no order and no filter, and
-- leaves no row out.
pub record ShowsEach (v : View) : Type 0 where
  pub plain : is_plain v.outputs ≡ true
  pub order : v.order ≡ []
  pub filter : v.filter ≡ None
  pub lookup : leaves_none v.lookup ≡ true

-- What is stored is that of these numbered rows: their entries in a view's order, or their groups and the entries of
-- the groups' rows in it; nothing is stored where the view shows each row.
abbrev pub IsMaterializedBy : Type 0 → Materialized → Outputs → List OrderBy → NumberedRows → Type 0
IsMaterializedBy Each kept.Live outputs order rows = Each
IsMaterializedBy Each (kept.Order o) (columns outputs) order rows = (o.order ≡ order) × KeepsOrder o rows
IsMaterializedBy Each (kept.Order o) (groups by outputs having) order rows = ⊥
IsMaterializedBy Each (kept.Groups g) (columns outputs) order rows = ⊥
IsMaterializedBy Each (kept.Groups g) (groups by outputs having) order rows =
    (g.groups.keys ≡ by) × All (λ o. IsKeptColumn g.groups.columns o.aggregate) outputs
    × (g.ranking ≡ ranking_by outputs having order)
    × KeepsRanked g (values_of rows)

-- What is stored for a view is that of these numbered rows.
abbrev pub IsMaterialized : View → Materialized → NumberedRows → Type 0
IsMaterialized v k rows = IsMaterializedBy (ShowsEach v) k v.outputs v.order rows

-- What is stored for a view is computed from those of these rows of the main table that are live.
abbrev pub IsMaterializedLive : View → Materialized → Side → List Slot → Type 0
IsMaterializedLive v k side slots = IsMaterialized v k (image (projected_row v side) (numbered slots))

-- the cell of a row of the main table that is looked up, if the view looks up a table
abbrev pub referring_by : Option Lookup → List Datum → Option (List Datum)
referring_by None row = None
referring_by (Some l) row = Some (cell_at row l.on ∷ [])

-- the same by the view's lookup
abbrev pub referring_row : View → List Datum → Option (List Datum)
referring_row v row = referring_by v.lookup row

-- the row of the main table, if it is in a sub-group
abbrev pub sub_row_of : View → List Datum → Option (List Datum)
sub_row_of v row = sub_row (length row) v row

-- what links store of a row of the main table: the cell by which it refers, or the row, if it is in a sub-group
abbrev pub link_row : Links → View → List Datum → Option (List Datum)
link_row (links.Rows r) v row = referring_row v row
link_row (links.SubGroups s) v row = sub_row_of v row

-- Links store these.
abbrev pub KeepsLinks : Links → NumberedRows → Type 0
KeepsLinks (links.Rows r) rows = KeepsReferrers r rows
KeepsLinks (links.SubGroups s) rows = KeepsSubGroups s rows

-- What links store of a row that is dropped, whose looked-up cell this is: a row in no sub-group.
abbrev pub IsDroppedLink : Links → Option Datum → Option (List Datum) → Type 0
IsDroppedLink (links.Rows r) cell row = row ≡ option_map (λ d. d ∷ []) cell
IsDroppedLink (links.SubGroups s) cell row = row ≡ None

-- the columns that groups accumulate
abbrev pub columns_in : Materialized → Option (List AccumulatedColumn)
columns_in kept.Live = None
columns_in (kept.Order o) = None
columns_in (kept.Groups g) = Some g.groups.columns

-- the columns by which sub-groups are made, and those that they accumulate
abbrev pub form_of : Links → Option (List ℕ × List AccumulatedColumn)
form_of (links.Rows r) = None
form_of (links.SubGroups s) = Some (s.groups.keys, s.groups.columns)

-- how many columns a table has, and how many the main table

abbrev pub width_at : List Table → ℕ → ℕ
width_at tables n = length (table_at tables n).columns

abbrev pub width_in : List Table → ℕ
width_in tables = width_at tables 0

-- The links of a view that can be kept by sub-groups are sub-groups, with the columns that the view's groups
-- accumulate; those of the others are referrers.
abbrev pub AreLinks : List Table → View → Materialized → Links → Type 0
AreLinks tables v k (links.Rows r) = is_moved (width_in tables) v ≡ false
AreLinks tables v k (links.SubGroups s) =
    AreSubGroups (width_in tables) v s × (columns_in k ≡ Some s.groups.columns)

-- A view is stale, or its state is computed from these rows of the main table, and so are its links.
abbrev pub IsCurrent : List Table → View → Side → ViewState → NumberedRows → Type 0
IsCurrent tables v side s rows =
    s.stale ≡ false
    → IsMaterialized v s.kept (image (projected_row v side) rows)
    × (AreLinks tables v s.kept s.links × KeepsLinks s.links (image (link_row s.links v) rows))

abbrev pub EachIsCurrent : List Table → Rows → NumberedRows → List View → List ViewState → Type 0
EachIsCurrent tables rows live [] [] = Unit {0}
EachIsCurrent tables rows live [] (s ∷ ss) = ⊥
EachIsCurrent tables rows live (v ∷ vs) [] = ⊥
EachIsCurrent tables rows live (v ∷ vs) (s ∷ ss) =
    IsCurrent tables v (side_by tables rows v) s live × EachIsCurrent tables rows live vs ss

-- Each view is stale, or kept current with the live rows of the tables.
abbrev pub AreCurrent : List Table → Rows → List View → List ViewState → Type 0
AreCurrent tables rows views states = EachIsCurrent tables rows (numbered (rows_at rows 0)) views states

-- The same of a view of the tables in stores, and of views of them: they are stale, or current with these rows of the
-- main table.
abbrev pub IsCurrentFor : List Store → View → ViewState → NumberedRows → Type 0
IsCurrentFor stores v s rows = IsCurrent (tables_in stores) v (side_from stores v) s rows

abbrev pub AreCurrentFor : List Store → List View → List ViewState → NumberedRows → Type 0
AreCurrentFor stores views states rows = EachIsCurrent (tables_in stores) (rows_in stores) rows views states

-- The state is stale, or nothing is stored for the view's rows and links.
abbrev pub IsIdle : View → ViewState → Type 0
IsIdle v s = s.stale ≡ false → (s.kept ≡ kept.Live) × (v.lookup ≡ None)

abbrev pub AreIdle : List View → List ViewState → Type 0
AreIdle vs ss =
    (k : ℕ) (v : View) (s : ViewState) → k < length vs → v ≡ get_or vs k v → s ≡ get_or ss k s → IsIdle v s

-- the change at a number where a row is inserted, or deleted
abbrev pub turned_by : Turn → ℕ → Option (List Datum) → Shift
turned_by turn.Come n row = shift n None row
turned_by turn.Go n row = shift n row None

-- the change in which rows of these numbers are inserted, or deleted
abbrev pub turned : Turn → List Slot → List ℕ → List Shift
turned turn.Come slots ns = come slots ns
turned turn.Go slots ns = gone slots ns

-- the same of the last rows
abbrev pub turned_last : Turn → List Slot → ℕ → List Shift
turned_last t slots n = turned t slots (last_numbers n slots)

-- the change of the projected rows of these rows
abbrev pub projected_change : List Table → Rows → View → Turn → List ℕ → List Shift
projected_change tables rows v t ns =
    map (shift_image (projected_row v (side_by tables rows v))) (turned t (rows_at rows 0) ns)

-- the change of what links store
abbrev pub link_change : List Slot → Links → View → Turn → List ℕ → List Shift
link_change slots l v t ns = map (shift_image (link_row l v)) (turned t slots ns)

-- Tables that are looked up

-- A view is stale, or kept current with the live rows of the tables.
abbrev pub IsCurrentWith : List Table → Rows → View → ViewState → Type 0
IsCurrentWith tables rows v s = IsCurrent tables v (side_by tables rows v) s (numbered (rows_at rows 0))

-- Only the rows of one table may differ.
abbrev pub DiffersAt : ℕ → Rows → Rows → Type 0
DiffersAt n old new = old ≡ slice_set new n (rows_at old n)

-- the rows of the tables where the change of one of them is turned: reverted, or made again
abbrev pub swapped_at : ℕ → Turn → TableChange → Rows → Rows
swapped_at n t c rows = slice_set rows n (swapped t c (rows_at rows n))

-- the change of the projected rows of the rows of these numbers, which f gave and g gives
abbrev pub reprojected_by :
    (List Datum → Option (List Datum)) → (List Datum → Option (List Datum)) → List Slot → List ℕ → List Shift
reprojected_by f g slots ns = map (λ n. shift n (f (row_of slots n)) (g (row_of slots n))) ns

-- the change of a view's projected rows of these rows where the change of a side table is turned
abbrev pub reprojected_change : List Table → Rows → View → ℕ → Turn → TableChange → List ℕ → List Shift
reprojected_change tables rows v n t c ns =
    reprojected_by (projected_row v (side_by tables (swapped_at n t c rows) v))
    (projected_row v (side_by tables rows v))
    (rows_at rows 0) ns

-- The rows before the change of a table was turned: the other tables' are the same, and of the table those are live
-- that are live where the change is turned back.
pub record IsBefore (n : ℕ) (t : Turn) (c : TableChange) (old new : Rows) : Type 0 where
  pub differs : DiffersAt n old new
  pub live_same : live (rows_at old n) ≡ live (swapped t c (rows_at new n))

-- A view that was current before the change of a table was turned is current after it.
abbrev pub BecomesCurrent : ℕ → Turn → TableChange → List Store → View → ViewState → ViewState → Type 0
BecomesCurrent n t c stores v old new =
    (rows : Rows) → IsBefore n t c rows (rows_in stores) → IsCurrentWith (tables_in stores) rows v old
    → IsCurrentWith (tables_in stores) (rows_in stores) v new

-- the same of views
abbrev pub BecomeCurrent : ℕ → Turn → TableChange → List Store → List View → List ViewState → List ViewState → Type 0
BecomeCurrent n t c stores views old new =
    (rows : Rows) → IsBefore n t c rows (rows_in stores) → AreCurrent (tables_in stores) rows views old
    → AreCurrent (tables_in stores) (rows_in stores) views new

-- Views that were current with the rows before it still are.
abbrev pub AreLeftCurrent : ℕ → Turn → TableChange → List Store → List View → List ViewState → List ViewState → Type 0
AreLeftCurrent n t c stores views old new =
    (rows : Rows) → IsBefore n t c rows (rows_in stores) → AreCurrent (tables_in stores) rows views old
    → AreCurrent (tables_in stores) rows views new

-- whether the table of this number is looked up
abbrev pub looks_up : Option Lookup → ℕ → Bool
looks_up None n = false
looks_up (Some l) n = nat_eq (suc l.side) n

-- what is stored is stale if a test holds, or if it was
abbrev pub stale_if : Bool → ViewState → ViewState
stale_if b s = record { stale = s.stale || b; kept = s.kept; links = s.links }

-- the states of which those of views that look up a table are stale
abbrev pub lookups_stale : ℕ → List View → List ViewState → List ViewState
lookups_stale n [] ss = ss
lookups_stale n (v ∷ vs) [] = []
lookups_stale n (v ∷ vs) (s ∷ ss) = stale_if (looks_up v.lookup n) s ∷ lookups_stale n vs ss

abbrev pub stale_in : List ViewState → List Bool
stale_in states = map (λ s. s.stale) states
