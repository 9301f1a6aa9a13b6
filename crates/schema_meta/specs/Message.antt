-- The metadata of a message: Message.fbs, table `Message`. Not every possible fault is collected: one is left out only
-- where another one is found, so the same metadata is accepted.
use Rattle.std.specs.Prelude.{ℕ, ℤ, pos, Bool, ◌||◌, Ok, Err, List, Option, None, Some, is_some, ◌==◌, if◌then◌else◌}
use Rattle.std.specs.Ordering.{int_eq}
use Rattle.flatbuf.specs.Layout.{Table, root_of, subtable_of}
use Rattle.values.specs.Limits.{max_body_size}
use Rattle.values.specs.declared.faults.StreamFault.TheVariants as fault
use Rattle.values.specs.Reading.{Reading, ◌>>=◌, both, second, must, one, refused_if, mapped}
use Rattle.values.specs.Rose.{Rose}
use Rattle.values.specs.Logical.{NamedType}
use Rattle.schema_meta.specs.Entry.{Entry}
use Rattle.schema_meta.specs.Schema.{schema_of}
use Rattle.schema_meta.specs.declared.header.MessageKind.{MessageKind}
use Rattle.schema_meta.specs.declared.header.MessageKind.TheVariants as kind
use Rattle.schema_meta.specs.declared.header.Header.TheVariants as header
use Rattle.schema_meta.specs.Counts.{count_in}
use Rattle.schema_meta.specs.BatchHead.{BatchHead}
use Rattle.schema_meta.specs.Batch.{batch_of}
use Rattle.schema_meta.specs.DictionaryBatch.{dictionary_of}
use Rattle.schema_meta.specs.FieldLayouts.{slot_layouts_of}
use Rattle.schema_meta.specs.declared.header.DictionaryHeader.{DictionaryHeader}
use Rattle.schema_meta.specs.Stage.{Known, Meta}
use Rattle.schema_meta.specs.SameColumns.{is_declared}
use Rattle.field_types.specs.Reads.{byte_of, needs, short_of}
use Rattle.field_types.specs.SchemaFbs as schema_fbs
use Rattle.schema_meta.specs.MessageFbs as fbs

-- V4 and V5 are read, by the same rules. An absent version is V1.
abbrev pub is_known_version : ℤ → Bool
is_known_version v = int_eq v (pos schema_fbs.v4) || int_eq v (pos schema_fbs.v5)

unfoldable pub version_of : Table → Reading (Unit {0})
version_of t = short_of t fbs.version (pos 0) >>= λ v. needs fault.Version (is_known_version v)

abbrev pub known_kind : ℕ → Reading MessageKind
known_kind n =
    if n == fbs.header_schema then Ok kind.Schema
    else if n == fbs.header_dictionary_batch then Ok kind.Dictionary
    else if n == fbs.header_record_batch then Ok kind.Batch
    else Err (one fault.HeaderKind)

-- the kind of the header
unfoldable pub kind_of : Table → Reading MessageKind
kind_of t = byte_of t fbs.header_kind >>= known_kind

-- the header's own table, which must be there
unfoldable pub header_table : Table → Reading Table
header_table t = must fault.BadTable (subtable_of t fbs.header) >>= must fault.BadTable

unfoldable pub body_of : Table → Reading ℕ
body_of t = count_in fault.BodySize max_body_size t fbs.body_length

abbrev pub brings_schema : ℕ → List (Rose Entry) → Meta
brings_schema body fields = record { header = header.Schema; body = body; schema = Some fields }

abbrev pub brings_batch : ℕ → BatchHead → Meta
brings_batch body b = record { header = header.Batch b; body = body; schema = None }

abbrev pub brings_dictionary : ℕ → DictionaryHeader → Meta
brings_dictionary body d = record { header = header.Dictionary d; body = body; schema = None }

-- the declared schema, where one was
abbrev pub expected : Option (List (Rose NamedType)) → List (Rose Entry) → Reading (List (Rose Entry))
expected None fields = Ok fields
expected (Some columns) fields = if is_declared columns fields then Ok fields else Err (one fault.SchemaMismatch)

-- There is one schema, before all batches.
unfoldable pub new_schema : Known → Table → Reading (List (Rose Entry))
new_schema known h =
    both second (refused_if fault.SecondSchema (is_some known.schema)) (schema_of h >>= expected known.declared)

unfoldable pub dictionary_batch : Known → ℕ → Table → Reading DictionaryHeader
dictionary_batch known body t =
    must fault.NoSchema known.schema >>= λ fields. header_table t >>= dictionary_of fields known.counts body

unfoldable pub record_batch : Known → ℕ → Table → Reading BatchHead
record_batch known body t =
    must fault.NoSchema known.schema >>= λ fields. header_table t >>= batch_of (slot_layouts_of fields) body

-- what the header means, by its kind
unfoldable pub header_of : Known → Table → MessageKind → ℕ → Reading Meta
header_of known t kind.Schema body = mapped (brings_schema body) (header_table t >>= new_schema known)
header_of known t kind.Dictionary body = mapped (brings_dictionary body) (dictionary_batch known body t)
header_of known t kind.Batch body = mapped (brings_batch body) (record_batch known body t)

-- Under an unknown kind nothing else is checked. A batch before the schema is refused whatever it has.
unfoldable pub meta_of : Known → List ℕ → Reading Meta
meta_of known bytes =
    must fault.BadTable (root_of bytes) >>= λ t. kind_of t
    >>= λ k. both second (version_of t) (body_of t >>= header_of known t k)
