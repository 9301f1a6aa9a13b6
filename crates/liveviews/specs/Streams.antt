-- What a recast answers that writes while it reads, and what it puts.
use Rattle.std.specs.Prelude.{◌≡◌, ◌⊎◌, ℕ, ◌++◌, List, [], Option, None, Some, Result, Ok, Err, length, map}
use Rattle.values.specs.Datum.{Datum}
use Rattle.values.specs.Rose.{Rose}
use Rattle.values.specs.declared.causes.Cause.{Cause}
use Rattle.values.specs.declared.causes.Cause.TheVariants as cause
use Rattle.schema_meta.specs.Entry.{Entry}
use Rattle.schema_meta.specs.Logical.{logical_field}
use Rattle.schema_meta.specs.Story.{Story, story_of}
use Rattle.feed.specs.Shown.{FeedParts, Shows}
use Rattle.feed.specs.States.{FeedState, retained_in}
use Rattle.body_writer.specs.declared.from_columns.batch.Batch.{Batch}
use Rattle.stream_writer.specs.Sinks.{Sunk, Writes}
use Rattle.stream_writer.specs.Stream.{canon}
use Rattle.stream_writer.specs.Table.{IsTable}
use Rattle.stream_writer.specs.TableWriters.{IsWriting}
use Rattle.stream_writer.specs.declared.faults.WriteFault.{WriteFault}
use Rattle.stream_writer.specs.declared.table_writer.TableWriter.{TableWriter}
use Rattle.stream_writer.specs.declared.faults.WriteFault.TheVariants as write
use Rattle.liveviews.specs.Brought.{Brings}
use Rattle.liveviews.specs.Recast.{IsUntouched, WritesTable}
use Rattle.liveviews.specs.Source.{OfSource}
use Rattle.liveviews.specs.Steps.{Reached, Refuses}
use Rattle.liveviews.specs.declared.files.FileFault.{FileFault}
use Rattle.liveviews.specs.declared.files.FileFault.TheVariants as file
use Rattle.liveviews.specs.declared.recasting.whole.RecastFault.{RecastFault}
use Rattle.liveviews.specs.declared.recasting.whole.SourceFault.{SourceFault}
use Rattle.liveviews.specs.declared.recasting.whole.SourceFault.TheVariants as source
use Rattle.liveviews.specs.declared.recasting.one_pass.Streaming.{Streaming}

-- a table of the stream's columns and its first rows, which can be written
pub record BeginsTable (s : Story) (entries : List (Rose Entry)) (rows : List (List Datum)) : Type 0 where
  pub schema : s.schema ≡ Some entries
  pub table : IsTable (map logical_field entries) rows
  pub later : List (List Datum)
  pub cells : s.rows ≡ rows ++ later

-- Writing the canonical stream of the stream's columns and its first rows stopped.
pub record PutsFirst (old new : Sunk) (fault : WriteFault) (s : Story) : Type 0 where
  pub entries : List (Rose Entry)
  pub rows : List (List Datum)
  pub begins : BeginsTable s entries rows
  pub writes : Writes old new (Err fault) (canon (map logical_field entries) rows)

-- No put failed, and nothing is put, or a prefix of the canonical stream of the first rows.
abbrev pub PutsBeginning : Sunk → Sunk → ℕ → Story → Type 0
PutsBeginning old new written s = IsUntouched old new written ⊎ PutsFirst old new (write.Memory written) s

abbrev pub StopsWithin : Sunk → Sunk → Cause → ℕ → Story → Type 0
StopsWithin old new cause.Memory written s = PutsBeginning old new written s
StopsWithin old new cause.Device written s = PutsFirst old new (write.Device written) s
StopsWithin old new c written s = PutsBeginning old new written s × Refuses s c

-- Where it succeeds, it does what `Recasts` says. Else the sink took a prefix of a canonical stream.
abbrev pub Streams : Sunk → Sunk → Result ℕ RecastFault → Story → Type 0
Streams old new (Ok n) s = WritesTable old new (Ok n) s
Streams old new (Err f) s = StopsWithin old new f.cause f.written s

-- the same of a source that holds `held`, and of one that can't be read to its end
abbrev pub StreamsSource : Option (List ℕ) → Sunk → Sunk → Result ℕ SourceFault → Type 0
StreamsSource held old new (Ok n) = OfSource held (λ input. Streams old new (Ok n) (story_of input))
StreamsSource held old new (Err source.Unreadable) =
    (written : ℕ) × OfSource held (λ input. PutsBeginning old new written (story_of input))
StreamsSource held old new (Err (source.Refused f)) = OfSource held (λ input. Streams old new (Err f) (story_of input))

-- A new file took what was written while a source was read that holds `held`, up to a fault of this cause. It was
-- discarded.
pub record Discards (held : Option (List ℕ)) (old : Sunk) (c : Cause) : Type 0 where
  pub thrown : Sunk
  pub written : ℕ
  pub streams :
      OfSource held (λ input. Streams old thrown (Err (record { cause = c; written = written })) (story_of input))

-- how many bytes a writer has put, if one was begun
abbrev pub written_by : Option TableWriter → ℕ
written_by None = 0
written_by (Some w) = w.written

-- These rows of the stream were given to the writer. Before the first batch none is begun, and nothing is put.
abbrev pub HasWritten : Sunk → Sunk → Story → Option TableWriter → List (List Datum) → Type 0
HasWritten start now s None rows = (rows ≡ []) × (now ≡ start)
HasWritten start now s (Some w) rows =
    (entries : List (Rose Entry)) × BeginsTable s entries rows × IsWriting start now (map logical_field entries) rows w

-- These rows of the stream were read and written, its feed holds the beginning of the next message, and these bytes
-- follow.
pub record HasStreamed (start now : Sunk) (s : Story) (f : FeedParts) (r : Streaming) (rest : List ℕ) : Type 0 where
  pub rows : List (List Datum)
  pub reached : Reached s f rows rest
  pub counted : r.rows ≡ length rows
  pub written : HasWritten start now s r.writer rows

-- The feed has the stream's schema, where it has one, and without one the stream is refused.
pub record KnowsSchema (s : Story) (f : FeedParts) : Type 0 where
  pub state : FeedState
  pub shows : Shows f state
  pub same : s.schema ≡ (retained_in state).known.schema
  pub lacks : s.schema ≡ None → Refuses s cause.NoSchema

-- This holds of each stream whose rows were given to this writer, and whose schema the feed has.
abbrev pub OfEachWritten : Sunk → FeedParts → Option TableWriter → (Sunk → Story → List (List Datum) → Type 0)
    → Type 0
OfEachWritten now f w holds =
    (start : Sunk) (s : Story) (rows : List (List Datum)) → HasWritten start now s w rows → KnowsSchema s f
    → holds start s rows

-- This is the next batch of a stream whose rows before it were given to the writer.
abbrev pub IsBrought : Sunk → FeedParts → Streaming → Batch → Type 0
IsBrought now f r b =
    (start : Sunk) × (s : Story) × (rows : List (List Datum)) × (rest : List ℕ) × HasWritten start now s r.writer rows
    × (r.rows ≡ length rows) × Brings s f rows b rest

-- This holds of each stream of which this is the next batch.
abbrev pub OfEachBrought : Sunk → FeedParts → Streaming → Batch → (Sunk → Story → List ℕ → Type 0) → Type 0
OfEachBrought now f r b holds =
    (start : Sunk) (s : Story) (rows : List (List Datum)) (rest : List ℕ) → HasWritten start now s r.writer rows
    → r.rows ≡ length rows → Brings s f rows b rest → holds start s rest

-- This holds of each stream that was read and written up to this piece, whatever bytes come after it.
abbrev pub OfEachStreamed : Sunk → FeedParts → Streaming → List ℕ → (Sunk → Story → List ℕ → Type 0) → Type 0
OfEachStreamed now f r piece holds =
    (start : Sunk) (s : Story) (later : List ℕ) → HasStreamed start now s f r (piece ++ later) → holds start s later

-- These last bytes of a piece remain, and each such stream is read and written up to them.
abbrev pub StreamsOn : Sunk → Sunk → FeedParts → Streaming → List ℕ → List ℕ → FeedParts → Streaming → Type 0
StreamsOn old new feed streaming piece left feed-after streaming-after =
    OfEachStreamed old feed streaming piece
    (λ start s later. HasStreamed start new s feed-after streaming-after (left ++ later))

-- a source that can't be read to its end, after this many bytes were put
abbrev pub unread_after : ℕ → FileFault → SourceFault
unread_after written file.Unusable = source.Unreadable
unread_after written file.Memory = source.Refused (record { cause = cause.Memory; written = written })
