-- Cells that lie in several arrays, or are nulls that lie in none.
use Rattle.std.specs.Prelude.{◌≡◌, ◌⊎◌, ℕ, ◌-◌, ◌<◌, ◌≤◌, Bool, true, List, None, Some, get_or, is_some, length, replicate}
use Rattle.std.specs.List.{flat_map}
use Rattle.values.specs.Rose.{Rose, node, Roses, none, more, kids_of}
use Rattle.values.specs.Datum.{Datum, null}
use Rattle.values.specs.Reading.{IsValid}
use Rattle.values.specs.declared.layout.IntWidth.{IntWidth}
use Rattle.values.specs.declared.layout.OffsetWidth.{OffsetWidth}
use Rattle.values.specs.declared.layout.OffsetWidth.TheVariants as offset
use Rattle.values.specs.declared.layout.Layout.{Layout}
use Rattle.values.specs.declared.layout.Layout.TheVariants.{Int, Utf8, Binary, List as Listed}
use Rattle.array_layout.specs.declared.array.ArrayData.{ArrayData}
use Rattle.array_layout.specs.declared.array.DictionaryValues.{DictionaryValues}
use Rattle.array_layout.specs.Sound.{IsSound}
use Rattle.array_layout.specs.Cells.{cell}
use Rattle.arrays.specs.declared.column.ColumnParts.{ColumnParts}
use Rattle.body_writer.specs.Runs.{slots, HasOffsets, HasBytes}
use Rattle.body_writer.specs.declared.from_columns.segment.Segment.{Segment}
use Rattle.body_writer.specs.declared.from_columns.segment.Segment.TheVariants.{Slots, Nulls}
use Rattle.body_writer.specs.declared.from_columns.segment.SlotRange.{SlotRange}

abbrev pub range_cells : SlotRange → List Datum
range_cells r = slots (cell r.parts.body.now (node r.parts.own.now (kids_of r.parts.children.now))) r.from (r.to -
    r.from)

abbrev pub segment_cells : Segment → List Datum
segment_cells (Slots r) = range_cells r
segment_cells (Nulls n) = replicate n null

abbrev pub segments_cells : List Segment → List Datum
segments_cells ps = flat_map segment_cells ps

-- slots without a fault, of an array whose buffers are sound
pub record IsChecked (r : SlotRange) : Type 0 where
  pub sound : IsSound r.parts.body.now (node r.parts.own.now (kids_of r.parts.children.now))
  pub valid : (k : ℕ) → r.from ≤ k → k < r.to
      → IsValid (cell r.parts.body.now (node r.parts.own.now (kids_of r.parts.children.now)) k)
  pub order : r.from ≤ r.to
  pub within : r.to ≤ r.parts.own.now.len

abbrev pub with_offsets : OffsetWidth → Layout → Layout
with_offsets o (Utf8 x) = Utf8 o
with_offsets o (Binary x) = Binary o
with_offsets o (Listed x) = Listed o
with_offsets o l = l

-- the width of an array's offsets, if it has any
abbrev pub offset_width : Layout → OffsetWidth
offset_width (Utf8 o) = o
offset_width (Binary o) = o
offset_width (Listed o) = o
offset_width l = offset.Bits32

-- the same layout, but for the width of offsets
abbrev pub IsAlike : Layout → Layout → Type 0
IsAlike l m = m ≡ with_offsets (offset_width m) l

-- the array that parts are of
abbrev pub array_of : ColumnParts → Rose ArrayData
array_of parts = node parts.own.now (kids_of parts.children.now)

-- its slots are indices into a dictionary
abbrev pub HasDictionary : ArrayData → Type 0
HasDictionary p = is_some p.dictionary ≡ true

-- An array of the form of another one: it has a dictionary where that has one. Where both have none, it is of the
-- layout, but for the width of offsets, and the arrays below it are of the forms of those below the other.
abbrev mutual
  pub Lies : Rose Layout → Rose ArrayData → Rose ArrayData → Type 0
  Lies (node l kids) (node m models) (node p arrays) =
      (HasDictionary m × HasDictionary p)
      ⊎ ((m.dictionary ≡ None) × (p.dictionary ≡ None) × IsAlike l p.layout × AllLie kids models arrays)

  pub AllLie : Roses Layout → Roses ArrayData → Roses ArrayData → Type 0
  AllLie none none none = Unit {0}
  AllLie (more t ts) (more m models) (more a arrays) = Lies t m a × AllLie ts models arrays
  AllLie _ _ _ = ⊥

-- what holds of the slots of a segment, if it is of slots
abbrev pub OfSlots : (SlotRange → Type 0) → Segment → Type 0
OfSlots P (Slots r) = P r
OfSlots P (Nulls n) = Unit {0}

pub record HasWidth (r : SlotRange) : Type 0 where
  pub checked : IsChecked r
  pub offsets : r.offsets ≡ offset_width r.parts.own.now.layout

-- slots of an array of this one's form
pub record RangeLies (t : Rose Layout) (m : Rose ArrayData) (r : SlotRange) : Type 0 where
  pub width : HasWidth r
  pub lies : Lies t m (node r.parts.own.now (kids_of r.parts.children.now))

abbrev pub LiesAs : Rose Layout → Rose ArrayData → Segment → Type 0
LiesAs t m (Slots r) = RangeLies t m r
LiesAs t m (Nulls n) = Unit {0}

-- what is known of slots without looking below their array

pub record IsPlain (r : SlotRange) : Type 0 where
  pub checked : IsChecked r
  pub plain : r.parts.own.now.dictionary ≡ None

pub record IsEncoded (r : SlotRange) : Type 0 where
  pub checked : IsChecked r
  pub encoded : HasDictionary r.parts.own.now

-- slots that refer to these values, by indices of this width
pub record IsIndexed (w : IntWidth) (values : List Datum) (r : SlotRange) : Type 0 where
  pub checked : IsChecked r
  pub layout : (s : Bool) × (r.parts.own.now.layout ≡ Int w s)
  pub encoded : (d : DictionaryValues) × ((r.parts.own.now.dictionary ≡ Some d) × (d.values ≡ values))

-- slots of this layout, but for the width of offsets
pub record HasLayout (l : Layout) (r : SlotRange) : Type 0 where
  pub plain : IsPlain r
  pub layout : r.parts.own.now.layout ≡ with_offsets r.offsets l

-- slots with offsets
pub record HasStarts (r : SlotRange) : Type 0 where
  pub plain : IsPlain r
  pub layout : HasOffsets r.parts.own.now.layout r.offsets

-- slots of texts or of bytes
pub record HasRuns (r : SlotRange) : Type 0 where
  pub plain : IsPlain r
  pub layout : HasBytes r.parts.own.now.layout r.offsets

-- slots of an array that has child j
pub record HasChild (l : Layout) (j : ℕ) (r : SlotRange) : Type 0 where
  pub own : HasLayout l r
  pub below : j < length r.parts.children.now

-- child j of the array is of this one's form
abbrev pub ChildLies : Rose Layout → Rose ArrayData → ℕ → SlotRange → Type 0
ChildLies t m j r = (a : Rose ArrayData) → a ≡ get_or r.parts.children.now j a → Lies t m a

-- slots of this layout, of an array whose children are of these forms
pub record LiesBelow (l : Layout) (ts : Roses Layout) (models : Roses ArrayData) (r : SlotRange) : Type 0 where
  pub own : HasLayout l r
  pub below : AllLie ts models (kids_of r.parts.children.now)
