-- How far a stream was shown.
use Rattle.std.specs.Prelude.{◌≡◌, ◌⊎◌, ℕ, List, [], All, Option, Result, Ok, Err, length}
use Rattle.values.specs.Reading.{FailsWith}
use Rattle.values.specs.declared.faults.StreamFault.TheVariants as fault
use Rattle.schema_meta.specs.Story.{story_of}
use Rattle.feed.specs.Shown.{FeedParts, Shows}
use Rattle.feed.specs.States.{FeedState}
use Rattle.feed.specs.Transcript.{transcript}
use Rattle.feed.specs.declared.event.FeedEvent.{FeedEvent}
use Rattle.feed.specs.declared.event.FeedEvent.TheVariants as event
use Rattle.liveviews.specs.Files.{IsContent}
use Rattle.liveviews.specs.Inspect.{Account, account_in, account_of, after_lines, status_where}
use Rattle.liveviews.specs.declared.show.ShowFault.{ShowFault}
use Rattle.liveviews.specs.declared.show.ShowFault.TheVariants as show

-- Each column of a batch has a cell a row.
abbrev pub HasCells : FeedEvent → Type 0
HasCells (event.Batch columns rows body) = All (λ c. length c.cells ≡ rows) columns.items
HasCells _ = Unit {0}

-- The messages so far give some lines of the account, and these bytes remain.
pub record Remains (a : Account) (f : FeedParts) (rest : List ℕ) : Type 0 where
  pub lines : List ℕ
  pub state : FeedState
  pub shows : Shows f state
  pub tells : a ≡ after_lines lines (account_in (transcript state rest))

-- a fault of the stream, or one that isn't the stream's
abbrev pub IsFault : Account → ShowFault → Type 0
IsFault a (show.Stream f) = (f ≡ fault.Memory) ⊎ FailsWith a.end f
IsFault a _ = Unit {0}

-- the result of consuming all messages of an input: nothing remains, or there is a fault
abbrev pub HasPassed : FeedParts → Result (Unit {0}) ShowFault → List ℕ → Type 0
HasPassed f (Ok u) input = Remains (account_of input) f []
HasPassed f (Err e) input = IsFault (account_of input) e

-- The result of showing a whole input: it has no fault, or the fault that is named.
abbrev pub IsShown : Result (Unit {0}) ShowFault → List ℕ → Type 0
IsShown (Ok u) input = status_where (story_of input).end ≡ 0
IsShown (Err (show.Stream f)) input = (f ≡ fault.Memory) ⊎ FailsWith (story_of input).end f
IsShown (Err e) input = Unit {0}

-- A file was read whose stream has no fault.
pub record ShowsFile (content : List ℕ → Option (List ℕ)) : Type 0 where
  pub path : List ℕ
  pub input : List ℕ
  pub read : IsContent (content path) input
  pub valid : status_where (story_of input).end ≡ 0
