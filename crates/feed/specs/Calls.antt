-- Definitions that the contracts of a feed name, from any state that it represents.
use Rattle.std.specs.Prelude.{◌≡◌, ℕ, ℤ, ◌++◌, List, Option, Some, Result, Ok, Err, All, IfSome, IsSome, take}
use Rattle.values.specs.Datum.{Datum}
use Rattle.values.specs.Layouts.{Holds}
use Rattle.values.specs.Logical.{NamedType}
use Rattle.values.specs.Reading.{Reading}
use Rattle.values.specs.Rose.{Rose}
use Rattle.values.specs.declared.col_type.ColType.{ColType}
use Rattle.values.specs.declared.faults.StreamFault.{StreamFault}
use Rattle.values.specs.declared.faults.StreamFault.TheVariants as fault
use Rattle.dictionaries.specs.Batches.{DictionaryBatch}
use Rattle.dictionaries.specs.Law.{HoldsAfter}
use Rattle.dictionaries.specs.Table.{Change, Table}
use Rattle.schema_meta.specs.BatchHead.{BatchHead}
use Rattle.schema_meta.specs.declared.header.DictionaryHeader.{DictionaryHeader}
use Rattle.schema_meta.specs.Dictionaries.{value_type}
use Rattle.schema_meta.specs.DictionaryBatch.{value_layout}
use Rattle.schema_meta.specs.Entry.{Entry}
use Rattle.schema_meta.specs.Parts.{arrays_of}
use Rattle.schema_meta.specs.Rows.{columns_in}
use Rattle.messages.specs.Handed.{MessageView}
use Rattle.messages.specs.Stream.{Stream}
use Rattle.feed.specs.declared.condition.Condition.TheVariants as condition
use Rattle.feed.specs.declared.event.Fed.{Fed}
use Rattle.feed.specs.declared.message.Coming.{Coming}
use Rattle.feed.specs.declared.validate.Validated.{Validated}
use Rattle.feed.specs.Retained.{Retained, brought_by, retained_of}
use Rattle.feed.specs.Events.{Event, Given, event_in}
use Rattle.feed.specs.States.{FeedState, Gives, after_finish, after_push, condition_after, retained_in}
use Rattle.feed.specs.Shown.{
  FeedParts,
  HasValues,
  IsAt,
  IsTypedEvent,
  Leads,
  Shows,
  WillBeAt,
  WillHoldAfter,
  change_coming,
  event_seen,
  values_next,
}

-- a push may answer this
abbrev pub MayAnswer : FeedParts → List ℕ → Result Given StreamFault → Type 0
MayAnswer f piece answer = (s : FeedState) → Shows f s → Gives s piece answer

abbrev pub ShowsAfter : FeedParts → List ℕ → Result Given StreamFault → FeedParts → Type 0
ShowsAfter old piece answer new = (s : FeedState) → Shows old s → Shows new (after_push s piece answer)

abbrev pub WillTake : FeedParts → List ℕ → Given → FeedParts → Type 0
WillTake old piece g new = (s : FeedState) → Shows old s → Leads new (after_push s piece (Ok g))

abbrev pub StillShows : FeedParts → FeedParts → Type 0
StillShows old new = (s : FeedState) → Shows old s → Shows new s

abbrev pub ShowsFinished : FeedParts → Result (Unit {0}) StreamFault → FeedParts → Type 0
ShowsFinished old answer new = (s : FeedState) → Shows old s → Shows new (after_finish s answer)

abbrev pub ShowsSchema : FeedParts → Option (List (Rose Entry)) → Type 0
ShowsSchema f fields = (s : FeedState) → Shows f s → fields ≡ (retained_in s).known.schema

-- The event of a push has columns as the schema has them.
abbrev pub IsTyped : Option (List (Rose Entry)) → Fed → Type 0
IsTyped fields f = IfSome f.event (IsTypedEvent fields)

-- a message's event, as the definitions have it, with the values of a dictionary batch
abbrev pub coming_seen : Coming → Event
coming_seen c = event_seen c.event

abbrev pub message_event : MessageView → (ℤ → List Datum) → Reading Event
message_event m values = event_in m.schema values m.body m.header

abbrev pub message_brings : MessageView → List DictionaryBatch
message_brings m = brought_by m.schema m.body m.header

-- The condition after a message: the end mark ends the stream, any other leaves it open.
abbrev pub IsFollowed : Coming → Type 0
IsFollowed c = c.next ≡ condition_after condition.Opened (Some (event_seen c.event))

-- These dictionary batches follow from those that came before by a change.
abbrev pub Adds : Table → Table → Option Change → List DictionaryBatch → Type 0
Adds old new c more = (ds : List DictionaryBatch) → HoldsAfter ds old → WillHoldAfter (ds ++ more) new c

-- A claim about an open feed, for each `Retained` that it may be at.
abbrev pub AtEach : Stream → Table → (Retained → Type 0) → Type 0
AtEach stream t claim = (k : Retained) → IsAt k stream t → claim k

-- A validated piece leads to this stream and these dictionaries, whatever bytes came before it.
abbrev pub GoesTo : Stream → Table → List ℕ → Stream → Table → Validated → Type 0
GoesTo old t piece new u j =
    (declared : Option (List (Rose NamedType))) (bytes : List ℕ) → IsAt (retained_of declared bytes) old t
    → WillBeAt (retained_of declared (bytes ++ take j.used piece)) new u (change_coming j.coming)

abbrev pub HasNext : Option (List (Rose Entry)) → Table → Validated → Type 0
HasNext fields t j = HasValues fields (values_next t (change_coming j.coming))

abbrev pub IsTypedComing : Option (List (Rose Entry)) → Validated → Type 0
IsTypedComing fields j = IfSome j.coming (λ c. IsTypedEvent fields c.event)

-- Where an event is returned, the call might as well have been refused memory.
abbrev pub MayLackFor : FeedParts → List ℕ → Fed → Type 0
MayLackFor f piece fed = IsSome fed.event → MayAnswer f piece (Err fault.Memory)

-- the values of a dictionary batch are of the type that its id has
abbrev pub AreOfType : List (Rose Entry) → DictionaryHeader → List Datum → Type 0
AreOfType fields d vs = (s : ColType) → value_type fields d.id ≡ Some s → All (Holds (value_layout s)) vs

-- the columns of a batch, where the dictionaries have these values
abbrev pub batch_columns : (ℤ → List Datum) → List (Rose Entry) → BatchHead → List ℕ → Reading (List (List Datum))
batch_columns values fields b body = columns_in body (arrays_of values fields b)
