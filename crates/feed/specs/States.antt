-- The states of a feed, by the bytes that it consumed, and what its calls may answer and lead to.
use Rattle.std.specs.Prelude.{
  ◌≡◌,
  ℕ,
  Bool,
  true,
  false,
  ◌++◌,
  ◌<◌,
  ◌==◌,
  List,
  [],
  ◌∷◌,
  Option,
  None,
  Some,
  Result,
  Ok,
  Err,
  if◌then◌else◌,
  length,
  take,
}
use Rattle.values.specs.Reading.{Reading, Passes, FailsWith, one}
use Rattle.values.specs.Rose.{Rose}
use Rattle.values.specs.declared.faults.StreamFault.{StreamFault}
use Rattle.values.specs.declared.faults.StreamFault.TheVariants as fault
use Rattle.values.specs.Logical.{NamedType}
use Rattle.schema_meta.specs.Story.{at_input_end}
use Rattle.feed.specs.declared.condition.Condition.{Condition}
use Rattle.feed.specs.declared.condition.Condition.TheVariants as condition
use Rattle.messages.specs.Stream.{Stream}
use Rattle.feed.specs.Retained.{Retained, retained_of, stream_in}
use Rattle.feed.specs.Events.{Event, batch, dictionary, ended, schema, Given, given, reading}

-- the columns that are declared for it, if any are, the bytes that it consumed, and whether it is open
pub record FeedState : Type 0 where
  pub declared : Option (List (Rose NamedType))
  pub bytes : List ℕ
  pub condition : Condition

abbrev pub fresh : Option (List (Rose NamedType)) → FeedState
fresh declared = record { declared = declared; bytes = []; condition = condition.Opened }

abbrev pub retained_in : FeedState → Retained
retained_in s = retained_of s.declared s.bytes

abbrev pub is_broken : Condition → Bool
is_broken condition.Broken = true
is_broken condition.Opened = false
is_broken condition.Ended = false
is_broken condition.Finished = false

-- After the end any byte is AfterEnd.
abbrev pub closed : List ℕ → Reading Given
closed [] = Ok (given 0 None)
closed (b ∷ bs) = Err (one fault.AfterEnd)

abbrev pub given_when : Condition → Retained → List ℕ → Reading Given
given_when condition.Opened k piece = reading k piece
given_when condition.Ended k piece = closed piece
given_when condition.Finished k piece = closed piece
given_when condition.Broken k piece = closed piece

-- what a piece gives
unfoldable pub gives : FeedState → List ℕ → Reading Given
gives s piece = given_when s.condition (retained_in s) piece

-- Memory may be refused where a piece is pushed that isn't empty.
abbrev pub MayLack : Condition → List ℕ → Type 0
MayLack condition.Opened piece = 0 < length piece
MayLack _ piece = ⊥

-- what a push may answer
unfoldable pub Gives : FeedState → List ℕ → Result Given StreamFault → Type 0
Gives s piece (Ok g) = gives s piece ≡ Ok g
Gives s piece (Err fault.Memory) = MayLack s.condition piece
Gives s piece (Err c) = FailsWith (gives s piece) c

abbrev pub condition_after : Condition → Option Event → Condition
condition_after c (Some ended) = condition.Ended
condition_after c (Some (schema fields)) = c
condition_after c (Some (dictionary id delta values)) = c
condition_after c (Some (batch columns rows body)) = c
condition_after c None = c

abbrev pub in_condition : FeedState → Condition → FeedState
in_condition s c = record { declared = s.declared; bytes = s.bytes; condition = c }

-- A fault breaks the feed. Where memory was refused, nothing was done.
abbrev pub condition_faulty : StreamFault → Condition → Condition
condition_faulty fault.Memory c = c
condition_faulty _ c = condition.Broken

abbrev pub after_fault : FeedState → StreamFault → FeedState
after_fault s f = in_condition s (condition_faulty f s.condition)

unfoldable pub after_push : FeedState → List ℕ → Result Given StreamFault → FeedState
after_push s piece (Ok g) =
    record {
      declared = s.declared;
      bytes = s.bytes ++ take g.used piece;
      condition = condition_after s.condition g.event;
    }
after_push s piece (Err c) = after_fault s c

-- The input may end between two messages after a schema, and after the end.
abbrev pub at_finish : Stream → Reading (Unit {0})
at_finish stream = if length stream.held == 0 then at_input_end stream.known.schema else Err (one fault.Truncated)

abbrev pub finishing_when : Condition → Stream → Reading (Unit {0})
finishing_when condition.Opened stream = at_finish stream
finishing_when condition.Ended stream = Ok tt
finishing_when condition.Finished stream = Ok tt
finishing_when condition.Broken stream = Ok tt

-- what `finish` may answer
unfoldable pub Finishes : FeedState → Result (Unit {0}) StreamFault → Type 0
Finishes s answer = Passes answer (finishing_when s.condition (stream_in (retained_in s)))

unfoldable pub after_finish : FeedState → Result (Unit {0}) StreamFault → FeedState
after_finish s (Ok u) = in_condition s condition.Finished
after_finish s (Err c) = in_condition s condition.Broken
