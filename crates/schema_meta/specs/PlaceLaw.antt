-- What holds of a batch's arrays where its header fits.
use Rattle.std.specs.Prelude.{◌≡◌, ℕ, ℤ, All, List, length, Some}
use Rattle.values.specs.Datum.{Datum}
use Rattle.values.specs.Layouts.{Holds}
use Rattle.values.specs.Rose.{Rose, Roses, none, more}
use Rattle.array_layout.specs.declared.array.ArrayData.{ArrayData}
use Rattle.array_layout.specs.Placing.{layout_of as layout_of_array, layouts_of as layouts_of_arrays}
use Rattle.array_layout.specs.Sound.{ArePlaced, IsPlaced}
use Rattle.array_layout.specs.Typed.{AreTyped, IsTyped}
use Rattle.values.specs.declared.col_type.ColType.{ColType}
use Rattle.array_layout.specs.Cells.{len_of}
use Rattle.schema_meta.specs.Entry.{Entry}
use Rattle.schema_meta.specs.BatchHead.{BatchHead}
use Rattle.schema_meta.specs.FieldLayouts.{layouts_of, slot_layouts_of}
use Rattle.schema_meta.specs.Dictionaries.{value_type}
use Rattle.schema_meta.specs.DictionaryBatch.{value_layout, value_layouts}
use Rattle.schema_meta.specs.FieldsLaw.{AreFields}
use Rattle.schema_meta.specs.Parts.{arrays_of, values_array}
use Rattle.schema_meta.specs.Sound.{Fits}

-- each of the arrays has n slots
abbrev pub HaveLength : ℕ → Roses ArrayData → Type 0
HaveLength n none = Unit {0}
HaveLength n (more t ts) = (len_of t ≡ n) × HaveLength n ts

-- The arrays' buffers lie in the body and are long enough, there is one slot for each row, and the layouts are those of
-- the fields.
abbrev pub PlaceLaw : Type 0
PlaceLaw =
    (values : ℤ → List Datum) (fields : List (Rose Entry)) (body : List ℕ) (head : BatchHead)
    → Fits (slot_layouts_of fields) (length body) head
    → ArePlaced body (arrays_of values fields head) × HaveLength head.rows (arrays_of values fields head)
    × (layouts_of_arrays (arrays_of values fields head) ≡ layouts_of fields)

-- The values of each dictionary of a schema are of its type.
abbrev pub AreValues : List (Rose Entry) → (ℤ → List Datum) → Type 0
AreValues fields values = (id : ℤ) (s : ColType) → value_type fields id ≡ Some s
    → All (Holds (value_layout s)) (values id)

-- Then the values of the arrays' dictionaries are of their types too.
abbrev pub TypedArraysLaw : Type 0
TypedArraysLaw =
    (values : ℤ → List Datum) (fields : List (Rose Entry)) (head : BatchHead) → AreFields fields
    → AreValues fields values
    → AreTyped (arrays_of values fields head)

-- Arrays depend on the values of dictionaries alone: where these are the same for each id, so are the arrays.
abbrev pub SameArraysLaw : Type 0
SameArraysLaw =
    (values others : ℤ → List Datum) (fields : List (Rose Entry)) (head : BatchHead)
    → ((id : ℤ) → values id ≡ others id)
    → arrays_of values fields head ≡ arrays_of others fields head

-- The array of a dictionary batch lies in the body and has one slot for each value.
abbrev pub ValuesLaw : Type 0
ValuesLaw =
    (s : ColType) (body : List ℕ) (head : BatchHead) → Fits (value_layouts s) (length body) head
    → IsPlaced body (values_array s head) × IsTyped (values_array s head) × (len_of (values_array s head) ≡ head.rows)
    × (layout_of_array (values_array s head) ≡ value_layout s)
