-- What is printed of a whole stream: the lines of its messages, and then that of its end or of one of its faults.
use Rattle.std.specs.Prelude.{◌≡◌, ℕ, List, [], ◌++◌, None, Ok, Err, codes, flat_map}
use Rattle.std.specs.Fmt.{decimal}
use Rattle.values.specs.Causes.{name_of, number_of}
use Rattle.values.specs.Reading.{IsAmong, Reading, ◌>>=◌, mapped}
use Rattle.values.specs.StreamCauses.{cause_of}
use Rattle.values.specs.declared.faults.StreamFault.{StreamFault}
use Rattle.schema_meta.specs.Story.{story_of}
use Rattle.feed.specs.declared.condition.Condition.{Condition}
use Rattle.feed.specs.declared.condition.Condition.TheVariants as condition
use Rattle.feed.specs.Retained.{stream_in}
use Rattle.feed.specs.States.{FeedState, finishing_when, fresh, retained_in}
use Rattle.feed.specs.Transcript.{Transcript, transcript}
use Rattle.liveviews.specs.Lines.{event_lines, newline}

-- the lines of the messages, and then the last one, or the faults at which the stream breaks
pub record Account : Type 0 where
  pub lines : List ℕ
  pub end : Reading (List ℕ)

-- lines, and then the rest of the account
abbrev pub after_lines : List ℕ → Account → Account
after_lines text a = record { lines = text ++ a.lines; end = a.end }

-- The end mark has its own line. Without one, the end of the input has one.
abbrev pub last_line : Condition → List ℕ
last_line condition.Opened = codes "end of input" ++ newline
last_line _ = []

-- the last line where all bytes were consumed, if the input may end there
abbrev pub last_in : FeedState → Reading (List ℕ)
last_in s = mapped (λ u. last_line s.condition) (finishing_when s.condition (stream_in (retained_in s)))

-- the account of a transcript: the lines of its events, in their order, and its end
abbrev pub account_in : Transcript → Account
account_in t = record { lines = flat_map event_lines t.events; end = t.end >>= last_in }

abbrev pub account_of : List ℕ → Account
account_of bytes = account_in (transcript (fresh None) bytes)

abbrev pub refusal_line : StreamFault → List ℕ
refusal_line f = codes "refused "
    ++ (decimal (number_of (cause_of f)) ++ (codes " " ++ (name_of (cause_of f) ++ newline)))

-- the last line and the status
abbrev pub Closes : Reading (List ℕ) → List ℕ → ℕ → Type 0
Closes (Ok last) text status = (text ≡ last) × (status ≡ 0)
Closes (Err fs) text status = (f : StreamFault) × IsAmong fs f × (text ≡ refusal_line f) × (status ≡ 1)

-- 0 where there is no fault, else 1
abbrev pub status_where : {X : Type 0} → Reading X → ℕ
status_where (Ok x) = 0
status_where (Err fs) = 1

-- An account ends as the reading of the whole stream does: with no fault, or with the same ones.
abbrev pub EndsAlike : Type 0
EndsAlike = (bytes : List ℕ) → mapped (λ last. tt) (account_of bytes).end ≡ (story_of bytes).end

-- This text and this status are those of the account.
pub record ReportsAccount (a : Account) (text : List ℕ) (status : ℕ) : Type 0 where
  pub last : List ℕ
  pub whole : text ≡ a.lines ++ last
  pub closes : Closes a.end last status
