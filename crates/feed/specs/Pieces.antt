-- A feed whose stream comes in pieces: however it is cut, the events are the same, and the faults.
use Rattle.std.specs.Prelude.{◌≡◌, ℕ, ◌<◌, ◌++◌, List, [], ◌∷◌, Option, None, Some, Result, Ok, Err, drop, length}
use Rattle.std.specs.List.{concat}
use Rattle.values.specs.Reading.{Faults, Yields, FailsWith}
use Rattle.values.specs.declared.faults.StreamFault.{StreamFault}
use Rattle.messages.specs.Laws.{AgreeIn}
use Rattle.feed.specs.Events.{Event, Given}
use Rattle.feed.specs.States.{FeedState, after_push, gives}
use Rattle.feed.specs.Transcript.{Transcript, led_by, no_events, transcript}

abbrev pub with_event : Option Event → List Event → List Event
with_event None events = events
with_event (Some e) events = e ∷ events

-- the state after the last piece, or the fault that a push was refused for
abbrev pub End : Type 0
End = Result FeedState StreamFault

-- Pushing pieces to a feed gives these events and comes to this end. What a push leaves of a piece is pushed next. A
-- push that was refused memory left the feed as it was, and doesn't count.
pub data Feeds : FeedState → List (List ℕ) → List Event → End → Type 0 where
  -- No piece remains.
  all_pushed : (s : FeedState) → Feeds s [] [] (Ok s)
  -- Nothing remains of a piece.
  used_up : (s : FeedState) (pieces : List (List ℕ)) (events : List Event) (end : End) → Feeds s pieces events end
      → Feeds s ([] ∷ pieces) events end
  -- A push uses some of a piece.
  pushed : (s : FeedState) (piece : List ℕ) (pieces : List (List ℕ)) (g : Given) (events : List Event) (end : End)
      → gives s piece ≡ Ok g → Feeds (after_push s piece (Ok g)) (drop g.used piece ∷ pieces) events end
      → Feeds s (piece ∷ pieces) (with_event g.event events) end
  -- A push is refused.
  refused : (s : FeedState) (piece : List ℕ) (pieces : List (List ℕ)) (c : StreamFault) → 0 < length piece
      → FailsWith (gives s piece) c → Feeds s (piece ∷ pieces) [] (Err c)

-- Where no byte remains there is no event.
abbrev pub NothingLeft : Type 0
NothingLeft = (s : FeedState) → transcript s [] ≡ no_events (Ok s)

-- A push changes nothing of a stream's transcript: that of the piece and of all that comes later is the event that the
-- push gives, if it does, and then that of the rest of the piece and of all that comes later.
abbrev pub PushKeeps : Type 0
PushKeeps =
    (s : FeedState) (piece later : List ℕ) (g : Given) → gives s piece ≡ Ok g
    → transcript s (piece ++ later) ≡ led_by g.event
    (transcript (after_push s piece (Ok g)) (drop g.used piece ++ later))

-- Where a piece has faults they end the transcript, whatever comes later.
abbrev pub RefusalEnds : Type 0
RefusalEnds =
    (s : FeedState) (piece later : List ℕ) (fs : Faults) → 0 < length piece → gives s piece ≡ Err fs
    → transcript s (piece ++ later) ≡ no_events (Err fs)

-- these events and this end are those of a transcript
pub record Follows (events : List Event) (end : End) (t : Transcript) : Type 0 where
  pub same : t.events ≡ events
  pub left : Yields (λ s. s) end t.end

-- Pushing pieces gives the events of all their bytes, and leaves the feed in the state to which they lead, or a refusal
-- names one of the faults in which they end.
abbrev pub FeedFollows : Type 0
FeedFollows =
    (s : FeedState) (pieces : List (List ℕ)) (events : List Event) (end : End) → Feeds s pieces events end
    → Follows events end (transcript s (concat pieces))

-- However bytes are cut into pieces, the events are the same, and so is the end.
abbrev pub CutsAgree : Type 0
CutsAgree =
    (s : FeedState) (pieces others : List (List ℕ)) (events theirs : List Event) (end other : End)
    → concat pieces ≡ concat others
    → Feeds s pieces events end → Feeds s others theirs other
    → (events ≡ theirs) × AgreeIn (transcript s (concat pieces)).end end other

-- Each list of pieces can be pushed to its end.
abbrev pub FeedsEnd : Type 0
FeedsEnd = (s : FeedState) (pieces : List (List ℕ)) → (events : List Event) × (end : End) × Feeds s pieces events end
