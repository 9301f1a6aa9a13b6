-- The arrays of a batch, one for each column: Arrow Columnar Format, "RecordBatch message" and "Dictionary-encoded
-- Layout". Nodes and buffers are in preorder over the fields.
use Rattle.std.specs.Prelude.{ℤ, List, Option, None, Some}
use Rattle.values.specs.Datum.{Datum}
use Rattle.values.specs.Rose.{Rose, node, Roses, none, more, kids_of}
use Rattle.array_layout.specs.declared.array.DictionaryValues.{DictionaryValues}
use Rattle.array_layout.specs.declared.array.ArrayData.{ArrayData}
use Rattle.array_layout.specs.Placing.{placed, placed_all, with_dictionary}
use Rattle.values.specs.ColTypes.{layout_of as layout_by}
use Rattle.values.specs.declared.col_type.ColType.{ColType}
use Rattle.schema_meta.specs.declared.encoding.DictionaryEncoding.{DictionaryEncoding}
use Rattle.schema_meta.specs.Entry.{Entry}
use Rattle.schema_meta.specs.BatchHead.{BatchHead}
use Rattle.schema_meta.specs.DictionaryBatch.{value_layout}
use Rattle.schema_meta.specs.FieldLayouts.{slot_layouts_of}

-- the values of a field's dictionary, where `values` are those of each id
abbrev pub dictionary_values : (ℤ → List Datum) → Option DictionaryEncoding → ColType → Option DictionaryValues
dictionary_values values None s = None
dictionary_values values (Some c) s = Some (record { layout = layout_by s; values = values c.id })

-- the arrays of these fields, with the dictionaries that they have
abbrev mutual
  pub decoded : (ℤ → List Datum) → Rose Entry → Rose ArrayData → Rose ArrayData
  decoded values (node e fs) (node p ps) =
      node (with_dictionary (dictionary_values values e.encoding e.stored) p) (decoded_all values fs ps)

  pub decoded_all : (ℤ → List Datum) → Roses Entry → Roses ArrayData → Roses ArrayData
  decoded_all values none ps = none
  decoded_all values (more f fs) none = none
  decoded_all values (more f fs) (more t ts) = more (decoded values f t) (decoded_all values fs ts)

unfoldable pub arrays_of : (ℤ → List Datum) → List (Rose Entry) → BatchHead → Roses ArrayData
arrays_of values fields head =
    decoded_all values (kids_of fields) (placed_all head.nodes head.ranges 0 0 (slot_layouts_of fields))

-- the one array of a dictionary batch, with values of this type
unfoldable pub values_array : ColType → BatchHead → Rose ArrayData
values_array s head = placed head.nodes head.ranges 0 0 (value_layout s)
