-- Apache Arrow Schema.fbs, union Type: the kinds of types that are supported, by their numbers in the union. Under any
-- other nothing is read.
use Rattle.std.specs.Prelude.{ℕ, Bool, true, Ok, Err, ◌==◌, if◌then◌else◌}
use Rattle.flatbuf.specs.Layout.{Table}
use Rattle.values.specs.Reading.{Reading, ◌>>=◌, one}
use Rattle.values.specs.declared.faults.StreamFault.TheVariants as fault
use Rattle.values.specs.declared.layout.OffsetWidth.TheVariants as offset
use Rattle.field_types.specs.declared.kinds.TypeKind.{TypeKind}
use Rattle.field_types.specs.declared.kinds.TypeKind.TheVariants as kind
use Rattle.field_types.specs.SchemaFbs as fbs
use Rattle.field_types.specs.Reads.{byte_of}
use Rattle.values.specs.declared.col_type.ColType.{ColType}
use Rattle.values.specs.declared.col_type.ColType.TheVariants as stored

unfoldable pub kind_numbered : ℕ → Reading TypeKind
kind_numbered n =
    if n == fbs.type_int then Ok kind.Int
    else if n == fbs.type_binary then Ok (kind.Binary offset.Bits32)
    else if n == fbs.type_utf8 then Ok (kind.Utf8 offset.Bits32)
    else if n == fbs.type_bool then Ok kind.Bool
    else if n == fbs.type_decimal then Ok kind.Decimal
    else if n == fbs.type_date then Ok kind.Date
    else if n == fbs.type_time then Ok kind.Time
    else if n == fbs.type_timestamp then Ok kind.Timestamp
    else if n == fbs.type_list then Ok (kind.List offset.Bits32)
    else if n == fbs.type_struct then Ok kind.Struct
    else if n == fbs.type_fixed_size_binary then Ok kind.FixedSizeBinary
    else if n == fbs.type_duration then Ok kind.Duration
    else if n == fbs.type_large_binary then Ok (kind.Binary offset.Bits64)
    else if n == fbs.type_large_utf8 then Ok (kind.Utf8 offset.Bits64)
    else if n == fbs.type_large_list then Ok (kind.List offset.Bits64)
    else Err (one fault.UnsupportedType)

unfoldable pub kind_of : Table → Reading TypeKind
kind_of t = byte_of t fbs.type_kind >>= kind_numbered

-- how many children a field of this kind may have: a list one, a struct any number, and no other kind any
abbrev pub may_have : TypeKind → ℕ → Bool
may_have (kind.List o) n = n == 1
may_have kind.Struct n = true
may_have _ n = n == 0

-- the kind of a type
abbrev pub kind_of_type : ColType → TypeKind
kind_of_type stored.Bool = kind.Bool
kind_of_type (stored.Int w s) = kind.Int
kind_of_type (stored.Decimal p s) = kind.Decimal
kind_of_type (stored.Date u) = kind.Date
kind_of_type (stored.Time u) = kind.Time
kind_of_type (stored.Timestamp u z) = kind.Timestamp
kind_of_type (stored.Duration u) = kind.Duration
kind_of_type (stored.Utf8 o) = kind.Utf8 o
kind_of_type (stored.Binary o) = kind.Binary o
kind_of_type (stored.FixedSizeBinary w) = kind.FixedSizeBinary
kind_of_type (stored.List o) = kind.List o
kind_of_type stored.Struct = kind.Struct
