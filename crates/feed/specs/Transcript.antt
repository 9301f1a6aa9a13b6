-- What all bytes of a stream give, event by event.
use Rattle.std.specs.Prelude.{ℕ, zero, suc, List, [], ◌∷◌, Option, None, Some, Ok, Err, drop, length}
use Rattle.values.specs.Reading.{Reading}
use Rattle.feed.specs.Events.{Event, Given}
use Rattle.feed.specs.States.{FeedState, after_push, gives}

-- the events, and then the faults, or the state of the feed once all bytes are consumed
pub record Transcript : Type 0 where
  pub events : List Event
  pub end : Reading FeedState

abbrev pub no_events : Reading FeedState → Transcript
no_events end = record { events = []; end = end }

-- an event, if there is one, and then the rest
abbrev pub led_by : Option Event → Transcript → Transcript
led_by None t = t
led_by (Some e) t = record { events = e ∷ t.events; end = t.end }

abbrev pub transcript_by : (FeedState → List ℕ → Transcript) → FeedState → List ℕ → Reading Given → Transcript
transcript_by next s bytes (Ok g) = led_by g.event (next (after_push s bytes (Ok g)) (drop g.used bytes))
transcript_by next s bytes (Err fs) = no_events (Err fs)

-- the transcript of bytes of which at most n messages are read
unfoldable pub transcript_of : ℕ → FeedState → List ℕ → Transcript
transcript_of zero s bytes = no_events (Ok s)
transcript_of (suc n) s [] = no_events (Ok s)
transcript_of (suc n) s (b ∷ bs) = transcript_by (transcript_of n) s (b ∷ bs) (gives s (b ∷ bs))

-- Each message has a byte at least.
unfoldable pub transcript : FeedState → List ℕ → Transcript
transcript s bytes = transcript_of (length bytes) s bytes
