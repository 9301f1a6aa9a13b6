-- A stream that is read event by event, and the reading of the whole.
use Rattle.std.specs.Prelude.{◌≡◌, ◌⊎◌, ℕ, ◌++◌, ◌<◌, false, List, [], Option, None, Some, Result, Ok, Err, Any, length}
use Rattle.values.specs.Limits.{max_main_rows}
use Rattle.values.specs.Datum.{Datum}
use Rattle.values.specs.Rose.{Rose}
use Rattle.values.specs.declared.causes.Cause.{Cause}
use Rattle.values.specs.declared.causes.Cause.TheVariants as cause
use Rattle.schema_meta.specs.Entry.{Entry}
use Rattle.schema_meta.specs.FieldLayouts.{layouts_of}
use Rattle.schema_meta.specs.Means.{Means}
use Rattle.schema_meta.specs.Story.{Story, after_rows, at_end_mark, at_input_end, ends, story_of}
use Rattle.feed.specs.declared.condition.Condition.TheVariants as condition
use Rattle.feed.specs.Events.{given}
use Rattle.feed.specs.Retained.{Retained}
use Rattle.feed.specs.Shown.{FeedParts, Shows}
use Rattle.feed.specs.States.{FeedState, after_push, gives, is_broken, retained_in}
use Rattle.feed.specs.StoryLaw.{IsBetween, rest_story}
use Rattle.body_writer.specs.Heavy.{IsHeavy}
use Rattle.liveviews.specs.Taken.{AreAccepted}
use Rattle.liveviews.specs.Refused.{HasFaultOf}
use Rattle.liveviews.specs.Buffered.{IsBufferedSo, buffered_rows}
use Rattle.liveviews.specs.declared.recasting.table.Table.{Table}
use Rattle.liveviews.specs.declared.recasting.buffered_batches.BufferedBatches.{BufferedBatches}

-- the reading of the stream is these rows, and then the reading of these bytes in the state of this feed
abbrev pub ReadsAs : Story → List (List Datum) → Retained → List ℕ → Type 0
ReadsAs s rows k bytes = s ≡ after_rows rows (rest_story k bytes)

-- One of the rows of the stream is too heavy for its schema.
abbrev pub HasHeavyRow : Option (List (Rose Entry)) → List (List Datum) → Type 0
HasHeavyRow None rows = ⊥
HasHeavyRow (Some fields) rows = Any (IsHeavy (layouts_of fields)) rows

-- A stream is refused for this cause: it has a fault of this cause, too many rows, or a row that is too heavy.
abbrev pub Refuses : Story → Cause → Type 0
Refuses s cause.Memory = Unit {0}
Refuses s cause.TooManyRows = max_main_rows < length s.rows
Refuses s cause.CellTooHeavy = HasHeavyRow s.schema s.rows
Refuses s c = HasFaultOf s.end c

-- what was read from the stream: no row before a schema
abbrev pub AreConsumedSo : Option (List (Rose Entry)) → List (List Datum) → Type 0
AreConsumedSo None rows = rows ≡ []
AreConsumedSo (Some fields) rows = AreAccepted (layouts_of fields) rows

-- all rows of a stream were read
abbrev pub IsConsumed : Story → Type 0
IsConsumed s = AreConsumedSo s.schema s.rows

-- Pieces may be pushed to the feed.
abbrev pub IsOpen : FeedParts → Type 0
IsOpen f = (t : FeedState) × Shows f t × (is_broken t.condition ≡ false)

-- These rows of the stream were read, its feed holds the beginning of the next message, and these bytes follow.
pub record GoesOn (s : Story) (f : FeedParts) (rows : List (List Datum)) (rest : List ℕ) : Type 0 where
  -- the state after the last message
  pub state : FeedState
  pub held : List ℕ
  pub between : IsBetween state
  pub begun : gives state held ≡ Ok (given (length held) None)
  pub shows : Shows f (after_push state held (Ok (given (length held) None)))
  pub taken : AreConsumedSo s.schema rows
  pub tells : ReadsAs s rows (retained_in state) (held ++ rest)

-- These rows were read, and then the end mark came, before these bytes.
pub record Ended (s : Story) (f : FeedParts) (rows : List (List Datum)) (rest : List ℕ) : Type 0 where
  pub state : FeedState
  pub shows : Shows f state
  pub marked : state.condition ≡ condition.Ended
  pub taken : AreConsumedSo s.schema rows
  pub tells : s ≡ after_rows rows (ends (retained_in state).known (at_end_mark rest))
  pub fields : List (Rose Entry)
  pub known : (retained_in state).known.schema ≡ Some fields

abbrev pub Reached : Story → FeedParts → List (List Datum) → List ℕ → Type 0
Reached s f rows rest = GoesOn s f rows rest ⊎ Ended s f rows rest

-- This holds of each stream whose feed got to this piece, whatever bytes come after it.
abbrev pub OfEachReached : FeedParts → List ℕ → (Story → List (List Datum) → List ℕ → Type 0) → Type 0
OfEachReached f piece holds =
    (s : Story) (rows : List (List Datum)) (later : List ℕ) → Reached s f rows (piece ++ later) → holds s rows later

-- the same of what was read, and what is stored with its rows is right
abbrev pub HasConsumed : Story → FeedParts → BufferedBatches → List ℕ → Type 0
HasConsumed s f t rest = Reached s f (buffered_rows t) rest × IsBufferedSo s.schema t

-- The stream has these rows and no more, and its input may end here.
pub record IsComplete (s : Story) (f : FeedParts) (rows : List (List Datum)) : Type 0 where
  pub state : FeedState
  pub shows : Shows f state
  pub taken : AreConsumedSo s.schema rows
  pub tells : s ≡ after_rows rows (ends (retained_in state).known (at_input_end (retained_in state).known.schema))

-- The result of consuming all messages of an input: they were accepted, or the stream is refused.
abbrev pub HasConsumedAll : FeedParts → BufferedBatches → Result (Unit {0}) Cause → List ℕ → Type 0
HasConsumedAll f t (Ok u) input = HasConsumed (story_of input) f t []
HasConsumedAll f t (Err c) input = Refuses (story_of input) c

-- A whole input means this table, or is refused.
abbrev pub IsRead : Result Table Cause → List ℕ → Type 0
IsRead (Ok t) input =
    Means (story_of input) t.schema.fields.items (buffered_rows t.rows)
    × AreConsumedSo (story_of input).schema (story_of input).rows
IsRead (Err c) input = Refuses (story_of input) c
