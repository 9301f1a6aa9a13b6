-- What the next batch of a stream adds to what was read.
use Rattle.std.specs.Prelude.{◌≡◌, ℕ, ◌++◌, List, Some, length}
use Rattle.values.specs.Datum.{Datum}
use Rattle.values.specs.Rose.{Rose}
use Rattle.values.specs.declared.causes.Cause.{Cause}
use Rattle.schema_meta.specs.Entry.{Entry}
use Rattle.schema_meta.specs.FieldLayouts.{layouts_of}
use Rattle.schema_meta.specs.Story.{Story}
use Rattle.feed.specs.Columns.{layouts_in}
use Rattle.feed.specs.Shown.{FeedParts, Shows}
use Rattle.feed.specs.States.{FeedState, retained_in}
use Rattle.body_writer.specs.declared.from_columns.batch.Batch.{Batch}
use Rattle.body_writer.specs.RowRanges.{batch_rows}
use Rattle.liveviews.specs.Refused.{RefusesBatch}
use Rattle.liveviews.specs.Steps.{Reached, Refuses}
use Rattle.liveviews.specs.Taken.{AreAccepted}

-- These rows of the stream were read, then this batch of its columns came, and these bytes follow. Its rows can be
-- added to the others, or the stream is refused for the cause that they are refused for.
pub record Brings (s : Story) (f : FeedParts) (rows : List (List Datum)) (b : Batch) (rest : List ℕ) : Type 0 where
  pub fields : List (Rose Entry)
  pub schema : s.schema ≡ Some fields
  pub state : FeedState
  pub shows : Shows f state
  pub known : (retained_in state).known.schema ≡ Some fields
  pub layouts : layouts_in b.columns.items ≡ layouts_of fields
  pub many : length b.columns.items ≡ length fields
  pub taken : AreAccepted (layouts_of fields) rows
  pub later : List (List Datum)
  pub cells : s.rows ≡ (rows ++ batch_rows b) ++ later
  pub reached : AreAccepted (layouts_of fields) (rows ++ batch_rows b) → Reached s f (rows ++ batch_rows b) rest
  pub refused : (c : Cause) → RefusesBatch (layouts_of fields) (batch_rows b) (length rows) c → Refuses s c
