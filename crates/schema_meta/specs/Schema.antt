-- Apache Arrow Schema.fbs, table Schema: what it means, and its faults.
use Rattle.std.specs.Prelude.{pos, List, nat_le}
use Rattle.std.specs.Ordering.{int_eq}
use Rattle.flatbuf.specs.Layout.{Table, Vector, vector_of}
use Rattle.values.specs.Limits.{max_fields, max_depth}
use Rattle.values.specs.Reading.{Reading, ◌>>=◌, both, second}
use Rattle.values.specs.Rose.{Rose}
use Rattle.values.specs.declared.faults.StreamFault.TheVariants as fault
use Rattle.schema_meta.specs.Entry.{Entry}
use Rattle.field_types.specs.SchemaFbs as fbs
use Rattle.field_types.specs.Reads.{readable, needs, checked, short_of}
use Rattle.schema_meta.specs.FieldLayouts.{layouts_of, null_weights_fit}
use Rattle.schema_meta.specs.Dictionaries.{are_consistent}
use Rattle.schema_meta.specs.Fields.{forest, fields_in}
use Rattle.schema_meta.specs.Totals.{total}

-- The numbers in bodies are little endian, which is 0. An absent endianness is 0.
unfoldable pub endianness_of : Table → Reading (Unit {0})
endianness_of t =
    short_of t fbs.endianness (pos 0) >>= λ e. needs fault.BigEndian (int_eq e (pos fbs.little_endian))

-- The null weights of fields, and whether ids clash, are checked where all types are known.
unfoldable pub validated_fields : List (Rose Entry) → Reading (List (Rose Entry))
validated_fields fields =
    both second (needs fault.BadType (null_weights_fit (layouts_of fields)))
    (checked fault.DictionaryClash (are_consistent fields) fields)

-- At most 1,024 fields at all levels, of at most 16 levels.
unfoldable pub columns_of : Vector → Reading (List (Rose Entry))
columns_of v =
    both second (needs fault.TooManyFields (nat_le (total max_depth v) max_fields))
    (forest max_depth v >>= validated_fields)

-- the columns that a Schema table means
unfoldable pub schema_of : Table → Reading (List (Rose Entry))
schema_of t = both second (endianness_of t) (readable (vector_of t fbs.fields) >>= fields_in columns_of)
