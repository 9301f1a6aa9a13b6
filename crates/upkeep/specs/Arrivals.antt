-- What is known of the rows of a batch for a view, before they are stored.
use Rattle.std.specs.Prelude.{
  ◌≡◌,
  ℕ,
  ◌<◌,
  false,
  if◌then◌else◌,
  List,
  [],
  ◌∷◌,
  Option,
  None,
  Some,
  count_by,
  get_or,
  length,
  map,
  slice_get,
  take,
}
use Rattle.std.specs.Option.{option_map}
use Rattle.values.specs.Datum.{Datum}
use Rattle.view_lang.specs.Config.{View}
use Rattle.view_lang.specs.Joined.{Side}
use Rattle.view_lang.specs.Truth.{is_true}
use Rattle.view_lang.specs.Views.{passing_row}
use Rattle.view_lang.specs.declared.view.Lookup.{Lookup}
use Rattle.row_keys.specs.Slots.{Slot, last_numbers, row_of}
use Rattle.sub_groups.specs.FilterParts.{passes_main}
use Rattle.upkeep.specs.ViewStates.{referring_by}
use Rattle.upkeep.specs.declared.arrivals.Arrival.{Arrival}

-- A view drops such a row, whatever is looked up for it.
abbrev pub IsDropped : View → List Datum → Type 0
IsDropped v row = (side : Side) → passing_row v side row ≡ None

-- the cell of this number as a row, if there is one
abbrev pub cell_row : List Datum → ℕ → Option (List Datum)
cell_row cells k = option_map (λ cell. cell ∷ []) (slice_get cells k)

-- Row k of a batch is this one: where the filter isn't true of it the view drops it, even by the part of the filter
-- that the main table decides alone, and its looked-up cell is cell k.
pub record DescribesRow (v : View) (a : Arrival) (k : ℕ) (row : List Datum) : Type 0 where
  pub there : k < length a.truths
  pub dropped : is_true (get_or a.truths k None) ≡ false → IsDropped v row
  pub apart : is_true (get_or a.truths k None) ≡ false → passes_main (length row) v.filter row ≡ false
  pub refers : referring_by v.lookup row ≡ cell_row a.looked_up.items k

-- the same, where anything is known
abbrev pub DescribesSome : View → Option Arrival → ℕ → List Datum → Type 0
DescribesSome v None k row = Unit {0}
DescribesSome v (Some a) k row = DescribesRow v a k row

-- of each of these rows
abbrev pub Describes : View → List (List Datum) → Option Arrival → Type 0
Describes v rows o = (k : ℕ) → k < length rows → DescribesSome v o k (get_or rows k [])

-- for each view of which something may be known
abbrev pub EachDescribes : List View → List (List Datum) → List (Option Arrival) → Type 0
EachDescribes views rows [] = Unit {0}
EachDescribes [] rows (o ∷ os) = Unit {0}
EachDescribes (v ∷ vs) rows (o ∷ os) = Describes v rows o × EachDescribes vs rows os

-- These cells are the looked-up cells of the rows; none where no table is looked up.
abbrev pub AreReferring : Option Lookup → List (List Datum) → List Datum → Type 0
AreReferring l rows cells = (k : ℕ) → k < length rows → referring_by l (get_or rows k []) ≡ cell_row cells k

-- the rows of these numbers
abbrev pub rows_of_numbers : List Slot → List ℕ → List (List Datum)
rows_of_numbers slots ns = map (row_of slots) ns

-- the last rows
abbrev pub last_rows : ℕ → List Slot → List (List Datum)
last_rows n slots = rows_of_numbers slots (last_numbers n slots)

-- whether row k is opened, as a number: it is, unless it is known that the view drops it
abbrev pub opened_at : Option Arrival → ℕ → ℕ
opened_at None k = 1
opened_at (Some a) k = if is_true (get_or a.truths k None) then 1 else 0

-- how many of the first n rows are opened
abbrev pub opened_first : Option Arrival → ℕ → ℕ
opened_first None n = n
opened_first (Some a) n = count_by is_true (take n a.truths)
