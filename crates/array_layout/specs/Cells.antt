-- The cells of an array. A cell is a reading: of the slots that it reaches, a text that isn't UTF-8 is 25 NotUtf8, an
-- index that no value of its dictionary has is 26 DictionaryIndex, and a decimal with more digits than its precision is
-- 27 DecimalRange. Slots that no cell reaches have no meaning.
use Rattle.std.specs.Prelude.{
  ℕ,
  ℤ,
  pos,
  negsuc,
  true,
  List,
  [],
  ◌+◌,
  ◌-◌,
  ◌^◌,
  Option,
  None,
  Some,
  Ok,
  Err,
  if◌then◌else◌,
  nat_lt,
  nat_abs,
  slice_get,
}
use Rattle.std.specs.Str.{is_utf8}
use Rattle.values.specs.Reading.{Reading, ◌>>=◌, one, each, both, cons, mapped, must}
use Rattle.values.specs.Rose.{Rose, node, Roses, none, more}
use Rattle.values.specs.Datum.{Datum, null, truth, whole, text, bytes, list, structure, items_of}
use Rattle.values.specs.declared.faults.StreamFault.TheVariants as fault
use Rattle.values.specs.declared.layout.OffsetWidth.{OffsetWidth}
use Rattle.values.specs.declared.layout.Layout.{Layout}
use Rattle.values.specs.declared.layout.Layout.TheVariants.{
  Bool as Booleans,
  Int,
  Decimal,
  FixedSizeBinary,
  Utf8,
  Binary,
  List as Listed,
  Struct,
}
use Rattle.values.specs.Layouts.{bytes_in}
use Rattle.bitmaps.specs.Bits.{bit_at}
use Rattle.array_layout.specs.declared.array.DictionaryValues.{DictionaryValues}
use Rattle.array_layout.specs.declared.array.ArrayData.{ArrayData}
use Rattle.array_layout.specs.Placing.{bytes_of}
use Rattle.array_layout.specs.Buffers.{is_null, number_at, fixed_at, offset_at, slice_at}
use Rattle.array_layout.specs.Sound.{faults_in}

abbrev pub text_of : List ℕ → Reading Datum
text_of t = if is_utf8 t then Ok (text t) else Err (one fault.NotUtf8)

-- strictly between -10^p and 10^p
abbrev pub decimal_of : ℕ → ℤ → Reading Datum
decimal_of p z = if nat_lt (nat_abs z) (10 ^ p) then Ok (whole z) else Err (one fault.DecimalRange)

abbrev pub list_of : Reading (List Datum) → Reading Datum
list_of m = mapped (λ ds. list (items_of ds)) m

abbrev pub structure_of : Reading (List Datum) → Reading Datum
structure_of m = mapped (λ ds. structure (items_of ds)) m

-- the n items from offset i on
abbrev pub items_at : (ℕ → Reading Datum) → OffsetWidth → List ℕ → ℕ → Reading (List Datum)
items_at item o offsets i = each item (offset_at o offsets i) (offset_at o offsets (i + 1) - offset_at o offsets i)

-- the value of a dictionary that has this index (Arrow Columnar Format, "Dictionary-encoded Layout")
abbrev pub indexed : List Datum → ℤ → Reading Datum
indexed values (pos n) = must fault.DictionaryIndex (slice_get values n)
indexed values (negsuc n) = Err (one fault.DictionaryIndex)

-- a valid slot of an array of indices, which refers to a value of the dictionary
abbrev pub coded_by : Layout → List Datum → List ℕ → ℕ → Reading Datum
coded_by (Int w s) values indices i = indexed values (number_at s (bytes_in w) indices i)
coded_by l values indices i = Err (one fault.DictionaryIndex)

-- A valid slot of an array of values, by layout: `item` reads the slots of the first child, `row` those of all children
-- at one index.
abbrev pub value_by : Layout → List ℕ → ArrayData → (ℕ → Reading Datum) → (ℕ → Reading (List Datum)) → ℕ → Reading Datum
value_by Booleans body p item row i = Ok (truth (bit_at (bytes_of body p.values) i))
value_by (Int w s) body p item row i = Ok (whole (number_at s (bytes_in w) (bytes_of body p.values) i))
value_by (Decimal d) body p item row i = decimal_of d (number_at true 16 (bytes_of body p.values) i)
value_by (FixedSizeBinary w) body p item row i = Ok (bytes (fixed_at w (bytes_of body p.values) i))
value_by (Utf8 o) body p item row i = text_of (slice_at o (bytes_of body p.offsets) (bytes_of body p.values) i)
value_by (Binary o) body p item row i = Ok (bytes (slice_at o (bytes_of body p.offsets) (bytes_of body p.values) i))
value_by (Listed o) body p item row i = list_of (items_at item o (bytes_of body p.offsets) i)
value_by Struct body p item row i = structure_of (row i)

-- a valid slot, of an array with a dictionary or without
abbrev pub slot_by : Option DictionaryValues → List ℕ → ArrayData → (ℕ → Reading Datum) → (ℕ → Reading (List Datum)) → ℕ
    → Reading Datum
slot_by None body p item row i = value_by p.layout body p item row i
slot_by (Some w) body p item row i = coded_by p.layout w.values (bytes_of body p.values) i

unfoldable pub cell_by : List ℕ → ArrayData → (ℕ → Reading Datum) → (ℕ → Reading (List Datum)) → ℕ → Reading Datum
cell_by body p item row i = if is_null (bytes_of body p.validity) i then Ok null
    else slot_by p.dictionary body p item row i

-- the cell of slot i
abbrev mutual
  pub cell : List ℕ → Rose ArrayData → ℕ → Reading Datum
  cell body (node p kids) i = cell_by body p (λ j. first_cell body kids j) (λ j. row body kids j) i

  pub first_cell : List ℕ → Roses ArrayData → ℕ → Reading Datum
  first_cell body none i = Ok null
  first_cell body (more t ts) i = cell body t i

  pub row : List ℕ → Roses ArrayData → ℕ → Reading (List Datum)
  row body none i = Ok []
  row body (more t ts) i = both cons (cell body t i) (row body ts i)

-- the number of slots
abbrev pub len_of : Rose ArrayData → ℕ
len_of (node p kids) = p.len

-- all cells of an array
unfoldable pub cells : List ℕ → Rose ArrayData → Reading (List Datum)
cells body t = each (λ i. cell body t i) 0 (len_of t)

-- a column: its cells, or its faults of the body stage
unfoldable pub column_of : List ℕ → Rose ArrayData → Reading (List Datum)
column_of body t = faults_in body t >>= λ _. cells body t
