-- The reading of a whole stream: Arrow Columnar Format, "IPC Streaming Format". Message by message, each with what is
-- known after those before it.
use Rattle.std.specs.Prelude.{
  ℕ,
  zero,
  suc,
  ◌==◌,
  List,
  [],
  ◌∷◌,
  ◌++◌,
  Option,
  None,
  Some,
  Ok,
  Err,
  length,
  drop,
  slice_range,
  unwrap_or,
  if◌then◌else◌,
}
use Rattle.values.specs.Datum.{Datum}
use Rattle.values.specs.Reading.{Reading, one}
use Rattle.values.specs.Rose.{Rose}
use Rattle.values.specs.declared.faults.StreamFault.TheVariants as fault
use Rattle.dictionaries.specs.Batches.{DictionaryBatch, batch, dictionary_after}
use Rattle.schema_meta.specs.Entry.{Entry}
use Rattle.schema_meta.specs.declared.header.Header.{Header}
use Rattle.schema_meta.specs.declared.header.Header.TheVariants as header
use Rattle.schema_meta.specs.Stage.{Known, Whole, end_of}
use Rattle.schema_meta.specs.Sound.{after}
use Rattle.schema_meta.specs.Framing.{first}
use Rattle.schema_meta.specs.Rows.{rows_of, values_of}

-- the meaning of a stream: its schema, the rows of its batches, and then its end, or the faults at which it breaks
pub record Story : Type 0 where
  pub schema : Option (List (Rose Entry))
  pub rows : List (List Datum)
  pub end : Reading (Unit {0})

abbrev pub ends : Known → Reading (Unit {0}) → Story
ends known end = record { schema = known.schema; rows = []; end = end }

-- rows, and then the rest of the story
abbrev pub after_rows : List (List Datum) → Story → Story
after_rows rows s = record { schema = s.schema; rows = rows ++ s.rows; end = s.end }

-- There is one schema: once it is known, it is that of the stream.
abbrev pub with_schema : Option (List (Rose Entry)) → Story → Story
with_schema None s = s
with_schema (Some fields) s = record { schema = Some fields; rows = s.rows; end = s.end }

-- The input may end between two messages after a schema.
abbrev pub at_input_end : Option (List (Rose Entry)) → Reading (Unit {0})
at_input_end None = Err (one fault.NoSchema)
at_input_end (Some fields) = Ok tt

-- Nothing follows an end mark.
abbrev pub at_end_mark : List ℕ → Reading (Unit {0})
at_end_mark rest = if length rest == 0 then Ok tt else Err (one fault.AfterEnd)

abbrev pub after_batch : Known → Reading (List (List Datum)) → Story → Story
after_batch known (Ok rows) rest = after_rows rows rest
after_batch known (Err fs) rest = ends known (Err fs)

abbrev pub after_values : Known → Reading (List Datum) → (List Datum → Story) → Story
after_values known (Ok values) rest = rest values
after_values known (Err fs) rest = ends known (Err fs)

-- the columns of a stream, none before its schema
abbrev pub fields_of : Known → List (Rose Entry)
fields_of known = unwrap_or known.schema []

-- the story from a message with this header on, with its body and the bytes after the message. `known` holds after it,
-- `ds` are the dictionary batches before it, and `rest` is the story of those bytes after some dictionary batches.
abbrev pub story_by : Known → (List DictionaryBatch → Story) → List DictionaryBatch → List ℕ → List ℕ → Header → Story
story_by known rest ds body bytes header.Schema = rest ds
story_by known rest ds body bytes (header.Dictionary d) =
    after_values known (values_of (fields_of known) d body) (λ values. rest (ds ++ batch d.id d.is_delta values ∷ []))
story_by known rest ds body bytes (header.Batch head) =
    after_batch known (rows_of (dictionary_after ds) (fields_of known) head body) (rest ds)
story_by known rest ds body bytes header.End = ends known (at_end_mark bytes)

abbrev pub after_message : (Known → List DictionaryBatch → List ℕ → Story) → Known → List DictionaryBatch → List ℕ
    → Whole → Story
after_message next known ds bytes w =
    story_by known (λ es. next known es (drop (end_of w) bytes)) ds (slice_range bytes w.front (end_of w))
    (drop (end_of w) bytes)
    w.meta.header

-- the first message, if it is whole and has no fault, and what follows
unfoldable pub story_step :
    (Known → List DictionaryBatch → List ℕ → Story) → Known → List DictionaryBatch → List ℕ → Reading (Option Whole)
    → Story
story_step next known ds bytes (Err fs) = ends known (Err fs)
story_step next known ds bytes (Ok None) = ends known (Err (one fault.Truncated))
story_step next known ds bytes (Ok (Some w)) = after_message next (after known w.meta) ds bytes w

-- the story of bytes that have at most this many messages, after these dictionary batches
unfoldable pub story : ℕ → Known → List DictionaryBatch → List ℕ → Story
story zero known ds bytes = ends known (at_input_end known.schema)
story (suc n) known ds bytes =
    if length bytes == 0 then ends known (at_input_end known.schema)
    else with_schema known.schema (story_step (story n) known ds bytes (first known bytes))

abbrev pub nothing_known : Known
nothing_known = record { declared = None; schema = None; counts = [] }

-- A message has a byte at least, so there are no more messages than bytes.
unfoldable pub story_of : List ℕ → Story
story_of bytes = story (length bytes) nothing_known [] bytes
