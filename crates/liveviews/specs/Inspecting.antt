-- How far an inspection has come.
use Rattle.std.specs.Prelude.{◌≡◌, ◌⊎◌, ℕ, Bool, false, List, [], None, Result, Ok, Err, if◌then◌else◌, string_bytes}
use Rattle.values.specs.Reading.{FailsWith}
use Rattle.values.specs.declared.faults.StreamFault.{StreamFault}
use Rattle.values.specs.declared.faults.StreamFault.TheVariants as fault
use Rattle.feed.specs.declared.condition.Condition.{Condition}
use Rattle.feed.specs.declared.condition.Condition.TheVariants as condition
use Rattle.feed.specs.Shown.{Shows}
use Rattle.feed.specs.States.{FeedState, fresh}
use Rattle.feed.specs.Transcript.{transcript}
use Rattle.liveviews.specs.Inspect.{Account, ReportsAccount, account_in, account_of, after_lines}
use Rattle.liveviews.specs.declared.inspecting.events.Inspection.{Inspection}

pub record IsFresh (i : Inspection) : Type 0 where
  pub shows : Shows i.feed (fresh None)
  pub empty : string_bytes i.text ≡ []
  pub before : i.ended ≡ false

abbrev pub condition_when : Bool → Condition
condition_when ended = if ended then condition.Ended else condition.Opened

abbrev pub IsOpen : Inspection → Type 0
IsOpen i = (s : FeedState) × Shows i.feed s × (s.condition ≡ condition_when i.ended)

-- The lines of an account so far were written, and these bytes remain.
pub record IsLeft (a : Account) (i : Inspection) (rest : List ℕ) : Type 0 where
  pub state : FeedState
  pub shows : Shows i.feed state
  pub goes : state.condition ≡ condition_when i.ended
  pub tells : a ≡ after_lines (string_bytes i.text) (account_in (transcript state rest))

-- All lines before it were written, and then comes this fault.
pub record StopsAt (a : Account) (text : List ℕ) (f : StreamFault) : Type 0 where
  pub whole : text ≡ a.lines
  pub stands : FailsWith a.end f

abbrev pub Breaks : Account → List ℕ → StreamFault → Type 0
Breaks a text f = (f ≡ fault.Memory) ⊎ StopsAt a text f

-- The result of consuming all messages of an input: their lines were written and nothing remains, or a fault comes
-- after them.
abbrev pub HasConsumed : Inspection → Result (Unit {0}) StreamFault → List ℕ → Type 0
HasConsumed i (Ok u) input = IsLeft (account_of input) i []
HasConsumed i (Err f) input = Breaks (account_of input) (string_bytes i.text) f

-- the same once the line of the input's end was written
abbrev pub HasRun : List ℕ → Result (Unit {0}) StreamFault → List ℕ → Type 0
HasRun text (Ok u) input = ReportsAccount (account_of input) text 0
HasRun text (Err f) input = Breaks (account_of input) text f
