-- Columns that are written with dictionaries: each has a dictionary of its own, whose id is the column's position, and
-- indices of 32 bits with a sign.
use Rattle.std.specs.Prelude.{ℕ, pos, true, if◌then◌else◌, List, Option, None, Some}
use Rattle.values.specs.Coded.{is_coded}
use Rattle.values.specs.declared.layout.IntWidth.TheVariants as int
use Rattle.field_types.specs.declared.index.IndexType.{IndexType}
use Rattle.schema_meta.specs.declared.encoding.DictionaryEncoding.{DictionaryEncoding}

abbrev pub indices : IndexType
indices = record { width = int.Bits32; signed = true }

abbrev pub own_encoding : ℕ → DictionaryEncoding
own_encoding j = record { id = pos j; index = indices }

abbrev pub encoding_at : List ℕ → ℕ → Option DictionaryEncoding
encoding_at coded j = if is_coded coded j then Some (own_encoding j) else None
