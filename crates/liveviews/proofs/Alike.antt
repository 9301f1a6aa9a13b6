-- An account ends as the reading of the whole stream does.
use Rattle.std.proofs.Common.{◌≡◌, ℕ, Option, None, Ok, Err, List, refl, ap, sym, ◌∙◌}
use Rattle.values.specs.Reading.{Reading, ◌>>=◌, mapped}
use Rattle.schema_meta.specs.Story.{story_of}
use Rattle.feed.specs.Retained.{stream_in}
use Rattle.feed.specs.States.{FeedState, finishing_when, fresh, retained_in}
use Rattle.feed.specs.StoryLaw.{EventsReportAll, input_end}
use Rattle.feed.specs.Transcript.{transcript}
use Rattle.liveviews.specs.Files.{InspectsFile}
use Rattle.liveviews.specs.Source.{OfSource}
use Rattle.liveviews.specs.Inspect.{Closes, EndsAlike, ReportsAccount, account_of, last_in, last_line, status_where}

unsaid : (text : List ℕ) (m : Reading (Unit {0})) → mapped (λ (last : List ℕ). tt) (mapped (λ u. text) m) ≡ m
unsaid text (Ok u) = refl
unsaid text (Err fs) = refl

-- the last line, or that the input may end
ends-by : (end : Reading FeedState) → mapped (λ (last : List ℕ). tt) (end >>= last_in) ≡ input_end end
ends-by (Ok s) = unsaid (last_line s.condition) (finishing_when s.condition (stream_in (retained_in s)))
ends-by (Err fs) = refl

pub account-ends : EventsReportAll → EndsAlike
account-ends law bytes = ends-by (transcript (fresh None) bytes).end ∙ sym (ap (λ s. s.end) (law bytes))

-- the status
closes-status : (m : Reading (List ℕ)) (last : List ℕ) (status : ℕ) → Closes m last status
    → status ≡ status_where {X = Unit {0}} (mapped (λ x. tt) m)
closes-status (Ok x) last status c = c.1
closes-status (Err fs) last status c = c.3

pub tells-status :
    (alike : EndsAlike) (bytes text : List ℕ) (status : ℕ) → ReportsAccount (account_of bytes) text status
    → status ≡ status_where (story_of bytes).end
tells-status alike bytes text status t =
    closes-status (account_of bytes).end t.last status t.closes ∙ ap status_where (alike bytes)

-- what is reported of a source's stream
pub inspects-source :
    (alike : EndsAlike) (held : Option (List ℕ)) (text : List ℕ) (status : ℕ) (HasRun : List ℕ → Type 0)
    → OfSource held HasRun
    → ((input : List ℕ) → HasRun input → ReportsAccount (account_of input) text status) → InspectsFile held text status
inspects-source alike held text status HasRun source tells = record {
  input = source.input;
  read = source.read;
  tells = tells source.input source.so;
  valid = tells-status alike source.input text status (tells source.input source.so);
}
