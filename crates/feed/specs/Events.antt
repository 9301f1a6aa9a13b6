-- What a piece gives after the bytes of which this is retained: all of it is consumed, or it completes a message, which
-- is an event.
use Rattle.std.specs.Prelude.{ℕ, ℤ, Bool, ◌-◌, ◌++◌, List, Option, None, Some, Ok, length, slice_range}
use Rattle.values.specs.Datum.{Datum}
use Rattle.values.specs.Reading.{Reading, ◌>>=◌, mapped}
use Rattle.values.specs.Rose.{Rose}
use Rattle.dictionaries.specs.Batches.{DictionaryBatch, dictionary_after}
use Rattle.schema_meta.specs.Entry.{Entry}
use Rattle.schema_meta.specs.BatchHead.{BatchHead}
use Rattle.schema_meta.specs.declared.header.DictionaryHeader.{DictionaryHeader}
use Rattle.schema_meta.specs.declared.header.Header.{Header}
use Rattle.schema_meta.specs.declared.header.Header.TheVariants as header
use Rattle.schema_meta.specs.Framing.{first}
use Rattle.schema_meta.specs.Parts.{arrays_of}
use Rattle.schema_meta.specs.Rows.{columns_in, values_of}
use Rattle.schema_meta.specs.Sound.{after}
use Rattle.schema_meta.specs.Stage.{Known, Whole, end_of}
use Rattle.schema_meta.specs.Story.{fields_of}
use Rattle.feed.specs.Retained.{Retained}

pub data Event : Type 0 where
  -- the columns
  schema : List (Rose Entry) → Event
  -- the id, whether it is a delta, and how many values the batch has
  dictionary : ℤ → Bool → ℕ → Event
  -- the cells of each column, the number of rows, and the length of the body
  batch : List (List Datum) → ℕ → ℕ → Event
  ended : Event

-- a dictionary batch of a stream with these columns, by its values
abbrev pub dictionary_event : List (Rose Entry) → DictionaryHeader → List ℕ → Reading Event
dictionary_event fields d body = mapped (λ vs. dictionary d.id d.is_delta (length vs)) (values_of fields d body)

-- a record batch, by its columns, where the dictionaries have these values
abbrev pub batch_event : (ℤ → List Datum) → List (Rose Entry) → BatchHead → List ℕ → Reading Event
batch_event values fields b body =
    mapped (λ columns. batch columns b.rows (length body)) (columns_in body (arrays_of values fields b))

-- The message with this header and body, in a stream with these columns, whose dictionaries have these values.
abbrev pub event_in : List (Rose Entry) → (ℤ → List Datum) → List ℕ → Header → Reading Event
event_in fields values body header.Schema = Ok (schema fields)
event_in fields values body (header.Dictionary d) = dictionary_event fields d body
event_in fields values body (header.Batch b) = batch_event values fields b body
event_in fields values body header.End = Ok ended

-- the same of a message after which this is known, and before which these dictionary batches came
abbrev pub event_by : Known → List DictionaryBatch → List ℕ → Header → Reading Event
event_by known ds body h = event_in (fields_of known) (dictionary_after ds) body h

pub record Given : Type 0 where
  pub used : ℕ
  pub event : Option Event

abbrev pub given : ℕ → Option Event → Given
given used event = record { used = used; event = event }

abbrev pub given_by : Retained → List ℕ → Option Whole → Reading Given
given_by k piece None = Ok (given (length piece) None)
given_by k piece (Some w) =
    mapped (λ e. given (end_of w - length k.held) (Some e))
    (event_by (after k.known w.meta) k.dictionaries (slice_range (k.held ++ piece) w.front (end_of w)) w.meta.header)

-- stage by stage: the message, and then its body
unfoldable pub reading : Retained → List ℕ → Reading Given
reading k piece = first k.known (k.held ++ piece) >>= given_by k piece
