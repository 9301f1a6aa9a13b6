-- Which states, given by consumed bytes, a feed in memory represents.
use Rattle.std.specs.Prelude.{
  ◌≡◌,
  ℕ,
  ℤ,
  Bool,
  List,
  [],
  Option,
  None,
  Some,
  Result,
  Ok,
  Err,
  if◌then◌else◌,
  All,
  IsSome,
  IsSomeAnd,
  length,
  refl,
}
use Rattle.std.specs.Coded.{Coded, code_by, coded×, coded_option}
use Rattle.std.specs.Option.{option_map}
use Rattle.std.specs.Ordering.{int_eq}
use Rattle.values.specs.Datum.{Datum}
use Rattle.values.specs.Rose.{Rose}
use Rattle.values.specs.declared.faults.StreamFault.{StreamFault}
use Rattle.arrays.specs.Checked.{CheckedColumn}
use Rattle.dictionaries.specs.Batches.{DictionaryBatch, found_after}
use Rattle.dictionaries.specs.Table.{Change, HasRoom, Table, change_code, found, table_code, values_in}
use Rattle.dictionaries.specs.Law.{HoldsAfter}
use Rattle.schema_meta.specs.Entry.{Entry}
use Rattle.schema_meta.specs.FieldLayouts.{layouts_of}
use Rattle.schema_meta.specs.FieldsLaw.{AreFields}
use Rattle.schema_meta.specs.PlaceLaw.{AreValues}
use Rattle.messages.specs.Stream.{FramerState, Stream, framer_code}
use Rattle.feed.specs.declared.condition.Condition.{Condition}
use Rattle.feed.specs.contracts.condition.Condition.{the_row}
use Rattle.feed.specs.declared.event.FeedEvent.{FeedEvent}
use Rattle.feed.specs.declared.event.FeedEvent.TheVariants as feed_event
use Rattle.feed.specs.declared.event.Fed.{Fed}
use Rattle.feed.specs.declared.message.Coming.{Coming}
use Rattle.feed.specs.declared.validate.Validated.{Validated}
use Rattle.feed.specs.Columns.{cells_in, layouts_in}
use Rattle.feed.specs.Retained.{Retained, stream_in}
use Rattle.feed.specs.Events.{Event, batch, dictionary, ended, schema, Given, given}
use Rattle.feed.specs.States.{FeedState, is_broken, retained_in}

-- What contracts see of a feed: its framing, its dictionaries and its condition, and the prepared change.
pub record FeedParts : Type 0 where
  pub framing : FramerState
  pub table : Table
  pub condition : Condition
  pub change : Option Change
  pub next : Condition

abbrev pub parts_code : Coded FeedParts
parts_code =
    code_by (FramerState × (Table × (Condition × (Option Change × Condition))))
    (coded× framer_code (coded× table_code (coded× the_row.coded (coded× (coded_option change_code) the_row.coded))))
    (λ f. (f.framing, (f.table, (f.condition, (f.change, f.next)))))
    (λ p. record { framing = p.0; table = p.1.0; condition = p.1.1.0; change = p.1.1.1.0; next = p.1.1.1.1 })
    (λ _. refl)

-- an open feed has just what is retained
abbrev pub IsAt : Retained → Stream → Table → Type 0
IsAt k stream t = (stream ≡ stream_in k) × HoldsAfter k.dictionaries t

abbrev pub breaks : FeedParts → Bool
breaks f = is_broken f.condition

-- The feed is in this state.
pub record Shows (f : FeedParts) (s : FeedState) : Type 0 where
  pub stream : f.framing.current ≡ stream_in (retained_in s)
  pub dictionaries : HoldsAfter (retained_in s).dictionaries f.table
  pub condition : f.condition ≡ s.condition

-- the values of an id once a change is made
abbrev pub found_next : Table → Option Change → ℤ → Option (List Datum)
found_next t None id = found t id
found_next t (Some c) id = if int_eq c.id id then Some c.values else found t id

abbrev pub values_next : Table → Option Change → ℤ → List Datum
values_next t None id = values_in t id
values_next t (Some c) id = if int_eq c.id id then c.values else values_in t id

abbrev pub WillHoldAfter : List DictionaryBatch → Table → Option Change → Type 0
WillHoldAfter bs t c = (id : ℤ) → found_next t c id ≡ found_after bs id

-- an open feed will have just what is retained, once a change is made
abbrev pub WillBeAt : Retained → Stream → Table → Option Change → Type 0
WillBeAt k stream t c = (stream ≡ stream_in k) × WillHoldAfter k.dictionaries t c

-- The feed will be in this state, once the prepared change is committed.
pub record Leads (f : FeedParts) (s : FeedState) : Type 0 where
  pub stream : f.framing.prepared ≡ stream_in (retained_in s)
  pub dictionaries : WillHoldAfter (retained_in s).dictionaries f.table f.change
  pub condition : f.next ≡ s.condition

-- Nothing is prepared: a commit leads to the state in which the feed is.
abbrev pub NothingPrepared : FeedParts → Type 0
NothingPrepared f = (s : FeedState) → Shows f s → Leads f s

-- The columns are as they are read, and the dictionaries' values are of their types; without a schema there are none.
abbrev pub HasValues : Option (List (Rose Entry)) → (ℤ → List Datum) → Type 0
HasValues None values = (id : ℤ) → values id ≡ []
HasValues (Some fields) values = AreFields fields × AreValues fields values

abbrev pub HasRoomFor : Table → Option Change → Type 0
HasRoomFor t None = Unit {0}
HasRoomFor t (Some c) = HasRoom t

pub record IsFeed (f : FeedParts) : Type 0 where
  pub current : HasValues f.framing.current.known.schema (values_in f.table)
  pub prepared : HasValues f.framing.prepared.known.schema (values_next f.table f.change)
  pub room : HasRoomFor f.table f.change

-- an event as the definitions have it
abbrev pub event_seen : FeedEvent → Event
event_seen (feed_event.Schema s) = schema s.value.fields.items
event_seen (feed_event.Dictionary id delta values) = dictionary id delta values
event_seen (feed_event.Batch columns rows body) = batch (cells_in columns.items) rows body
event_seen feed_event.End = ended

abbrev pub seen : Fed → Given
seen f = given f.used (option_map event_seen f.event)

abbrev pub answer_seen : Result Fed StreamFault → Result Given StreamFault
answer_seen (Ok f) = Ok (seen f)
answer_seen (Err c) = Err c

-- the effect of a piece, as an event of the definitions
abbrev pub event_coming : Option Coming → Option Event
event_coming None = None
event_coming (Some c) = Some (event_seen c.event)

abbrev pub validated_seen : Validated → Given
validated_seen j = given j.used (event_coming j.coming)

abbrev pub change_coming : Option Coming → Option Change
change_coming None = None
change_coming (Some c) = c.change

-- The columns of a batch have the layouts of the schema's columns, and one cell for each row.
abbrev pub HasColumns : List (Rose Entry) → List CheckedColumn → ℕ → Type 0
HasColumns fields columns rows = (layouts_in columns ≡ layouts_of fields) × All (λ c. length c.cells ≡ rows) columns

-- After any message the columns are known.
abbrev pub IsTypedEvent : Option (List (Rose Entry)) → FeedEvent → Type 0
IsTypedEvent fields (feed_event.Batch columns rows body) = IsSomeAnd fields (λ fs. HasColumns fs columns.items rows)
IsTypedEvent fields _ = IsSome fields
