-- The values as which cells are read that are seen where they lie.
use Rattle.std.specs.Prelude.{ℕ, ◌+◌, ◌-◌, ◌≤◌, List, [], Ok, Err, get_or}
use Rattle.values.specs.Datum.{Datum, Items, null, truth, whole, text, bytes, list, structure, items_of}
use Rattle.values.specs.Reading.{Reading, IsValid, each}
use Rattle.values.specs.Rose.{Rose, Roses, kids_of}
use Rattle.values.specs.declared.layout.Layout.TheVariants.{Struct as Structs}
use Rattle.array_layout.specs.declared.array.ArrayData.{ArrayData}
use Rattle.array_layout.specs.Cells.{cell, len_of, list_of, row, structure_of}
use Rattle.array_layout.specs.Sound.{AreLong, AreSound, IsSound}
use Rattle.arrays.specs.Checked.{CheckedColumn}
use Rattle.showing.specs.declared.cell.Items.{Items as Slots}
use Rattle.showing.specs.declared.cell.Cell.{Cell}
use Rattle.showing.specs.declared.cell.Cell.TheVariants.{
  Null,
  Bool,
  Int,
  Utf8,
  Binary,
  List as Listed,
  Struct,
  HeldList,
  HeldStruct,
}

-- the values as which the slots of an array are read
abbrev pub items_read : List ℕ → Rose ArrayData → ℕ → ℕ → Reading Datum
items_read body array from to = list_of (each (cell body array) from (to - from))

-- the values as which slot i of the arrays of a struct is read
abbrev pub members_read : List ℕ → Roses ArrayData → ℕ → Reading Datum
members_read body arrays i = structure_of (row body arrays i)

abbrev pub shown : Cell → Reading Datum
shown Null = Ok null
shown (Bool b) = Ok (truth b)
shown (Int n) = Ok (whole n)
shown (Utf8 t) = Ok (text t.now)
shown (Binary b) = Ok (bytes b.now)
shown (Listed s) = items_read s.body.now s.array.now s.from s.to
shown (Struct s) = members_read s.body.now (kids_of s.arrays.now) s.at
shown (HeldList vs) = Ok (list (items_of vs.now))
shown (HeldStruct vs) = Ok (structure (items_of vs.now))

-- the value of a reading, or null
abbrev pub value_of : Reading Datum → Datum
value_of (Ok d) = d
value_of (Err fs) = null

abbrev pub values_of : Reading (List Datum) → List Datum
values_of (Ok ds) = ds
values_of (Err fs) = []

abbrev pub seen : Cell → Datum
seen c = value_of (shown c)

-- the items of a list that lies in an array, and the cells of a struct that lie in arrays
abbrev pub items_in : Slots → Items
items_in s = items_of (values_of (each (cell s.body.now s.array.now) s.from (s.to - s.from)))

abbrev pub row_items : List ℕ → Roses ArrayData → ℕ → Items
row_items body arrays i = items_of (values_of (row body arrays i))

-- the cell of a column at an index
abbrev pub cell_in : CheckedColumn → ℕ → Datum
cell_in c i = get_or c.cells i null

-- these slots of an array can be read
pub record AreItems (body : List ℕ) (array : Rose ArrayData) (from to : ℕ) : Type 0 where
  pub sound : IsSound body array
  pub order : from ≤ to
  pub within : to ≤ len_of array
  pub valid : IsValid (each (cell body array) from (to - from))

-- slot i of these arrays can be read
pub record AreMembers (body : List ℕ) (arrays : Roses ArrayData) (i : ℕ) : Type 0 where
  pub sound : AreSound body arrays
  pub long : AreLong Structs (i + 1) arrays
  pub valid : IsValid (row body arrays i)

-- the parts of the cell can be read
abbrev pub IsReadable : Cell → Type 0
IsReadable (Listed s) = AreItems s.body.now s.array.now s.from s.to
IsReadable (Struct s) = AreMembers s.body.now (kids_of s.arrays.now) s.at
IsReadable _ = Unit {0}
