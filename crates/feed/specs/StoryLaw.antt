-- The reading of a whole stream, by the events of its feed.
use Rattle.std.specs.Prelude.{◌≡◌, ℕ, ◌++◌, ◌<◌, List, [], ◌∷◌, Option, None, Some, Ok, Err, flat_map, length, drop}
use Rattle.values.specs.Datum.{Datum}
use Rattle.values.specs.Reading.{Faults, Reading, ◌>>=◌, one}
use Rattle.values.specs.Rose.{Rose}
use Rattle.values.specs.declared.faults.StreamFault.TheVariants as fault
use Rattle.schema_meta.specs.Entry.{Entry}
use Rattle.schema_meta.specs.Rows.{rows_in}
use Rattle.schema_meta.specs.Story.{Story, after_rows, at_end_mark, ends, story, story_of}
use Rattle.feed.specs.declared.condition.Condition.TheVariants as condition
use Rattle.feed.specs.Retained.{Retained, stream_in}
use Rattle.feed.specs.Events.{Event, batch, dictionary, ended, schema, given}
use Rattle.feed.specs.States.{FeedState, after_push, finishing_when, fresh, gives, retained_in}
use Rattle.feed.specs.Transcript.{Transcript, transcript}

-- the reading of these bytes after those of which this is retained
abbrev pub rest_story : Retained → List ℕ → Story
rest_story k bytes = story (length bytes) k.known k.dictionaries bytes

-- an event, and then the reading of the bytes after it, where this is retained after it
abbrev pub rest_story_from : Event → Retained → List ℕ → Story
rest_story_from (schema fields) k rest = rest_story k rest
rest_story_from (dictionary id delta values) k rest = rest_story k rest
rest_story_from (batch columns rows body) k rest = after_rows (rows_in rows columns) (rest_story k rest)
rest_story_from ended k rest = ends k.known (at_end_mark rest)

-- between two messages of a stream that goes on
pub record IsBetween (s : FeedState) : Type 0 where
  pub goes_on : s.condition ≡ condition.Opened
  pub none_held : (retained_in s).held ≡ []

abbrev pub EventReports : Type 0
EventReports =
    (s : FeedState) (bytes : List ℕ) (used : ℕ) (e : Event) → IsBetween s → gives s bytes ≡ Ok (given used (Some e))
    → rest_story (retained_in s) bytes ≡ rest_story_from e (retained_in (after_push s bytes (Ok (given used (Some e)))))
    (drop used bytes)

-- Nothing is held after a message.
abbrev pub NoneHeld : Type 0
NoneHeld =
    (s : FeedState) (bytes : List ℕ) (used : ℕ) (e : Event) → s.condition ≡ condition.Opened
    → gives s bytes ≡ Ok (given used (Some e))
    → (retained_in (after_push s bytes (Ok (given used (Some e))))).held ≡ []

-- A piece that completes no message is held after the bytes that were held.
abbrev pub PartialIsHeld : Type 0
PartialIsHeld =
    (s : FeedState) (bytes : List ℕ) (used : ℕ) → s.condition ≡ condition.Opened → gives s bytes ≡ Ok (given used None)
    → (retained_in (after_push s bytes (Ok (given used None)))).held ≡ (retained_in s).held ++ bytes

abbrev pub FaultsReport : Type 0
FaultsReport =
    (s : FeedState) (bytes : List ℕ) (fs : Faults) → IsBetween s → gives s bytes ≡ Err fs
    → rest_story (retained_in s) bytes ≡ ends (retained_in s).known (Err fs)

-- An incomplete message alone is no whole stream: it is Truncated.
abbrev pub PartialReports : Type 0
PartialReports =
    (s : FeedState) (bytes : List ℕ) (used : ℕ) → IsBetween s → 0 < length bytes → gives s bytes ≡ Ok (given used None)
    → rest_story (retained_in s) bytes ≡ ends (retained_in s).known (Err (one fault.Truncated))

abbrev pub AllIsReported : Type 0
AllIsReported = (bytes : List ℕ) → story_of bytes ≡ rest_story (retained_in (fresh None)) bytes

-- Once there is a schema, it is that of the stream.
abbrev pub StoryKnowsSchema : Type 0
StoryKnowsSchema = (k : Retained) (bytes : List ℕ) (fields : List (Rose Entry)) → k.known.schema ≡ Some fields
    → (rest_story k bytes).schema ≡ Some fields

-- the schema among these events
abbrev pub schema_in : List Event → Option (List (Rose Entry))
schema_in [] = None
schema_in (schema fields ∷ es) = Some fields
schema_in (dictionary id delta values ∷ es) = schema_in es
schema_in (batch columns rows body ∷ es) = schema_in es
schema_in (ended ∷ es) = schema_in es

abbrev pub rows_at : Event → List (List Datum)
rows_at (schema fields) = []
rows_at (dictionary id delta values) = []
rows_at (batch columns rows body) = rows_in rows columns
rows_at ended = []

-- whether the input may end in the state of the feed
abbrev pub input_end : Reading FeedState → Reading (Unit {0})
input_end end = end >>= λ s. finishing_when s.condition (stream_in (retained_in s))

-- what a transcript means: the schema among its events, the rows of its batches, and whether the input may end there
abbrev pub story_in : Transcript → Story
story_in t = record { schema = schema_in t.events; rows = flat_map rows_at t.events; end = input_end t.end }

-- The reading of a whole stream is what its transcript means.
abbrev pub EventsReportAll : Type 0
EventsReportAll = (bytes : List ℕ) → story_of bytes ≡ story_in (transcript (fresh None) bytes)
