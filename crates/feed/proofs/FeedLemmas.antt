-- The state that a feed represents before and after a call.
use Rattle.std.proofs.Common.{
  ◌≡◌,
  ℕ,
  ℤ,
  ◌<◌,
  Bool,
  true,
  false,
  All,
  arith,
  Option,
  None,
  Some,
  Result,
  Ok,
  Err,
  List,
  [],
  ◌∷◌,
  ◌++◌,
  length,
  take,
  refl,
  ap,
  sym,
  subst,
  ◌∙◌,
  append-nil,
}
use Rattle.std.specs.Prelude.{if◌then◌else◌, unwrap_or, ◌==◌}
use Rattle.std.proofs.lemmas.Bool.{eqb-true}
use Rattle.std.specs.Map.{lookup}
use Rattle.std.specs.Ordering.{int_eq}
use Rattle.values.specs.Datum.{Datum}
use Rattle.values.specs.Layouts.{Holds}
use Rattle.values.specs.Rose.{Rose}
use Rattle.values.specs.Reading.{Fails, FailsWith, Passes}
use Rattle.values.specs.declared.faults.StreamFault.{StreamFault}
use Rattle.values.specs.declared.faults.StreamFault.TheVariants as fault
use Rattle.dictionaries.specs.Batches.{DictionaryBatch}
use Rattle.dictionaries.specs.Law.{HoldsAfter, NoneAtFirst}
use Rattle.dictionaries.specs.Table.{Change, Changes, Table, found, values_in}
use Rattle.values.specs.Logical.{NamedType}
use Rattle.schema_meta.specs.DictionaryBatch.{value_layout}
use Rattle.schema_meta.specs.Entry.{Entry}
use Rattle.schema_meta.specs.SchemaLaw.{before}
use Rattle.messages.specs.Stream.{FramerState}
use Rattle.feed.specs.declared.condition.Condition.{Condition}
use Rattle.feed.specs.declared.condition.Condition.TheVariants as condition
use Rattle.feed.specs.declared.message.Coming.{Coming}
use Rattle.feed.specs.declared.validate.Validated.{Validated}
use Rattle.feed.specs.Retained.{Retained, retained, retained_of}
use Rattle.feed.specs.Events.{Given, given, reading}
use Rattle.feed.specs.States.{
  FeedState,
  Finishes,
  Gives,
  MayLack,
  after_finish,
  after_push,
  closed,
  condition_after,
  condition_faulty,
  finishing_when,
  fresh,
  gives,
  given_when,
  in_condition,
  retained_in,
}
use Rattle.feed.specs.Shown.{
  FeedParts,
  HasValues,
  change_coming,
  event_coming,
  event_seen,
  validated_seen,
  IsAt,
  IsFeed,
  NothingPrepared,
  Leads,
  Shows,
  WillBeAt,
  found_next,
  values_next,
}

abbrev parts : FramerState → Table → Condition → Option Change → Condition → FeedParts
parts framing table c change next =
    record { framing = framing; table = table; condition = c; change = change; next = next }

pub open-shows :
    (law : NoneAtFirst) (declared : Option (List (Rose NamedType))) (framing : FramerState) (table : Table)
    (change : Option Change) (next : Condition)
    → framing.current ≡ record { known = before declared; held = [] } → table.entries ≡ []
    → Shows (parts framing table condition.Opened change next) (fresh declared)
unfolding retained_of retained
open-shows law declared framing table change next stream none =
    record { stream = stream; dictionaries = law table none; condition = refl }

-- what holds of a feed's view holds of its parts
pub shown : (f g : FeedParts) (s : FeedState) → f ≡ g → Shows g s → Shows f s
shown f g s same shows = subst (λ x. Shows x s) (sym same) shows

pub opened : (f g : FeedParts) → f ≡ g → g.condition ≡ condition.Opened → f.condition ≡ condition.Opened
opened f g same is = ap (λ x. x.condition) same ∙ is

pub is-at : (f : FeedParts) (s : FeedState) → Shows f s → IsAt (retained_in s) f.framing.current f.table
is-at f s shows = (shows.stream, shows.dictionaries)

-- entries that are the same have the same values
stands-same : (bs : List DictionaryBatch) (t u : Table) → u.entries ≡ t.entries → HoldsAfter bs t → HoldsAfter bs u
stands-same bs t u same stands = λ id. ap (λ es. lookup (int_eq id) es) same ∙ stands id

-- a feed of which only the condition changed
pub shows-in :
    (f : FeedParts) (s : FeedState) (framing : FramerState) (table : Table) (c : Condition) (change : Option Change)
    (next : Condition) → Shows f s
    → framing.current ≡ f.framing.current → table.entries ≡ f.table.entries
    → Shows (parts framing table c change next) (in_condition s c)
shows-in f s framing table c change next shows stream same = record {
  stream = stream ∙ shows.stream;
  dictionaries = stands-same (retained_in s).dictionaries f.table table same shows.dictionaries;
  condition = refl;
}

-- an open feed gives what is read
gives-open : (s : FeedState) (piece : List ℕ) → s.condition ≡ condition.Opened
    → gives s piece ≡ reading (retained_in s) piece
unfolding gives
gives-open s piece is = ap (λ c. given_when c (retained_in s) piece) is

pub gives-ok :
    (f : FeedParts) (s : FeedState) (piece : List ℕ) (g : Given) → f.condition ≡ condition.Opened → Shows f s
    → reading (retained_in s) piece ≡ Ok g
    → Gives s piece (Ok g)
unfolding Gives
gives-ok f s piece g is shows read = gives-open s piece (sym shows.condition ∙ is) ∙ read

-- a refusal, by its fault
refuses : (s : FeedState) (piece : List ℕ) (c : StreamFault) → MayLack s.condition piece → Fails c (gives s piece)
    → Gives s piece (Err c)
unfolding Gives
refuses s piece fault.Memory lack h = lack
refuses s piece fault.NoContinuation lack h = h
refuses s piece fault.BadSize lack h = h
refuses s piece fault.BadTable lack h = h
refuses s piece fault.BadName lack h = h
refuses s piece fault.Version lack h = h
refuses s piece fault.HeaderKind lack h = h
refuses s piece fault.BodySize lack h = h
refuses s piece fault.NoSchema lack h = h
refuses s piece fault.SecondSchema lack h = h
refuses s piece fault.BigEndian lack h = h
refuses s piece fault.UnsupportedType lack h = h
refuses s piece fault.BadType lack h = h
refuses s piece fault.TooManyFields lack h = h
refuses s piece fault.Compressed lack h = h
refuses s piece fault.DictionaryClash lack h = h
refuses s piece fault.UnknownDictionary lack h = h
refuses s piece fault.DictionaryTooLarge lack h = h
refuses s piece fault.NodeCount lack h = h
refuses s piece fault.BufferCount lack h = h
refuses s piece fault.BadLength lack h = h
refuses s piece fault.BufferRange lack h = h
refuses s piece fault.BufferShort lack h = h
refuses s piece fault.NullCount lack h = h
refuses s piece fault.Offsets lack h = h
refuses s piece fault.NotUtf8 lack h = h
refuses s piece fault.DictionaryIndex lack h = h
refuses s piece fault.DecimalRange lack h = h
refuses s piece fault.SchemaMismatch lack h = h
refuses s piece fault.AfterEnd lack h = h
refuses s piece fault.Truncated lack h = h

may-lack : (s : FeedState) (piece : List ℕ) → s.condition ≡ condition.Opened → 0 < length piece
    → MayLack s.condition piece
may-lack s piece is some = subst (λ c. MayLack c piece) (sym is) some

pub gives-memory : (f : FeedParts) (s : FeedState) (piece : List ℕ) → f.condition ≡ condition.Opened → 0 < length piece
    → Shows f s → Gives s piece (Err fault.Memory)
unfolding Gives
gives-memory f s piece is some shows = may-lack s piece (sym shows.condition ∙ is) some

pub gives-fault :
    (f : FeedParts) (s : FeedState) (piece : List ℕ) (c : StreamFault) → f.condition ≡ condition.Opened → Shows f s
    → 0 < length piece
    → Fails c (reading (retained_in s) piece) → Gives s piece (Err c)
gives-fault f s piece c is shows some fails =
    let opened : s.condition ≡ condition.Opened = sym shows.condition ∙ is in
    refuses s piece c (may-lack s piece opened some) (subst (Fails c) (sym (gives-open s piece opened)) fails)

-- where a piece leads
pub leads-to :
    (f : FeedParts) (s : FeedState) (piece : List ℕ) (g : Given) (framing : FramerState) (table : Table) (c : Condition)
    (change : Option Change) (next : Condition)
    → Shows f s → WillBeAt (retained_of s.declared (s.bytes ++ take g.used piece)) framing.prepared table change
    → next ≡ condition_after f.condition g.event → Leads (parts framing table c change next) (after_push s piece (Ok g))
unfolding after_push
leads-to f s piece g framing table c change next shows at is = record {
  stream = at.0;
  dictionaries = at.1;
  condition = is ∙ ap (λ x. condition_after x g.event) shows.condition;
}

pub after-fault :
    (f : FeedParts) (s : FeedState) (piece : List ℕ) (e : StreamFault) (framing : FramerState) (table : Table)
    (c : Condition) (change : Option Change)
    (next : Condition) → Shows f s → framing.current ≡ f.framing.current → table.entries ≡ f.table.entries
    → c ≡ condition_faulty e f.condition
    → Shows (parts framing table c change next) (after_push s piece (Err e))
unfolding after_push
after-fault f s piece e framing table c change next shows stream same is = record {
  stream = stream ∙ shows.stream;
  dictionaries = stands-same (retained_in s).dictionaries f.table table same shows.dictionaries;
  condition = is ∙ ap (condition_faulty e) shows.condition;
}

-- what was checked, without a message and with one
pub read-none :
    (k : Retained) (piece : List ℕ) (j : Validated) → j.coming ≡ None → reading k piece ≡ Ok (validated_seen j)
    → reading k piece ≡ Ok (given j.used None)
read-none k piece j none read = read ∙ ap (λ m. Ok (given j.used (event_coming m))) none

pub read-some :
    (k : Retained) (piece : List ℕ) (j : Validated) (c : Coming) → j.coming ≡ Some c
    → reading k piece ≡ Ok (validated_seen j)
    → reading k piece ≡ Ok (given j.used (Some (event_seen c.event)))
read-some k piece j c some read = read ∙ ap (λ m. Ok (given j.used (event_coming m))) some

pub leads-none :
    (f : FeedParts) (s : FeedState) (piece : List ℕ) (j : Validated) (framing : FramerState) (table : Table)
    → j.coming ≡ None → Shows f s
    → WillBeAt (retained_of s.declared (s.bytes ++ take j.used piece)) framing.prepared table (change_coming j.coming)
    → Leads (parts framing table f.condition None f.condition) (after_push s piece (Ok (given j.used None)))
leads-none f s piece j framing table none shows at =
    leads-to f s piece (given j.used None) framing table f.condition None f.condition shows
    (subst (λ m. WillBeAt (retained_of s.declared (s.bytes ++ take j.used piece)) framing.prepared table
    (change_coming m)) none at) refl

pub leads-validated :
    (f : FeedParts) (s : FeedState) (piece : List ℕ) (j : Validated) (c : Coming) (framing : FramerState)
    (table : Table)
    → j.coming ≡ Some c
    → f.condition ≡ condition.Opened → Shows f s
    → WillBeAt (retained_of s.declared (s.bytes ++ take j.used piece)) framing.prepared table (change_coming j.coming)
    → c.next ≡ condition_after condition.Opened (Some (event_seen c.event))
    → Leads (parts framing table f.condition c.change c.next)
    (after_push s piece (Ok (given j.used (Some (event_seen c.event)))))
leads-validated f s piece j c framing table some opened shows at next =
    leads-to f s piece (given j.used (Some (event_seen c.event))) framing table f.condition c.change c.next shows
    (subst (λ m. WillBeAt (retained_of s.declared (s.bytes ++ take j.used piece)) framing.prepared table
    (change_coming m)) some at)
    (next ∙ ap (λ x. condition_after x (Some (event_seen c.event))) (sym opened))

-- a feed that isn't open
closed-when : (c : Condition) (k : Retained) (piece : List ℕ) → (c ≡ condition.Opened → ⊥)
    → given_when c k piece ≡ closed piece
closed-when condition.Opened k piece shut = absurd (shut refl)
closed-when condition.Ended k piece shut = refl
closed-when condition.Finished k piece shut = refl
closed-when condition.Broken k piece shut = refl

gives-closed : (f : FeedParts) (s : FeedState) (piece : List ℕ) → (f.condition ≡ condition.Opened → ⊥) → Shows f s
    → gives s piece ≡ closed piece
unfolding gives
gives-closed f s piece shut shows = closed-when s.condition (retained_in s) piece (λ is. shut (shows.condition ∙ is))

pub closed-empty :
    (f : FeedParts) (s : FeedState) (piece : List ℕ) (empty : Bool) → (f.condition ≡ condition.Opened → ⊥)
    → empty ≡ (length piece == 0)
    → empty ≡ true → Shows f s → Gives s piece (Ok (given 0 None))
unfolding Gives
closed-empty f s [] empty shut is none shows = gives-closed f s [] shut shows
closed-empty f s (x ∷ xs) empty shut is none shows =
    absurd (omega (arith, eqb-true (length (x ∷ xs)) 0 (sym is ∙ none)))

pub closed-some :
    (f : FeedParts) (s : FeedState) (piece : List ℕ) (empty : Bool) → (f.condition ≡ condition.Opened → ⊥)
    → empty ≡ (length piece == 0)
    → empty ≡ false → Shows f s → Gives s piece (Err fault.AfterEnd)
unfolding Gives
closed-some f s [] empty shut is some shows = absurd (true-false empty is some) where
  true-false : (b : Bool) → b ≡ true → b ≡ false → ⊥
  true-false true p q = absurd (cc)
  true-false false p q = absurd (cc)
closed-some f s (x ∷ xs) empty shut is some shows =
    subst (λ m. FailsWith m fault.AfterEnd) (sym (gives-closed f s (x ∷ xs) shut shows)) refl

pub closed-fault :
    (f : FeedParts) (s : FeedState) (piece : List ℕ) (framing : FramerState) (change : Option Change) (next : Condition)
    → Shows f s
    → framing.current ≡ f.framing.current
    → Shows (parts framing f.table condition.Broken change next) (after_push s piece (Err fault.AfterEnd))
unfolding after_push
closed-fault f s piece framing change next shows stream =
    shows-in f s framing f.table condition.Broken change next shows stream refl

-- An empty piece leads to the feed's own state.
pub leads-empty : (f : FeedParts) (s : FeedState) (piece : List ℕ) → Leads f s
    → Leads f (after_push s piece (Ok (given 0 None)))
unfolding after_push
leads-empty f s piece leads =
    subst (λ bs. Leads f (record { declared = s.declared; bytes = bs; condition = s.condition }))
    (sym (append-nil s.bytes)) leads

-- nothing is prepared
pub nothing_prepared : (f : FeedParts) → f.framing.prepared ≡ f.framing.current → f.change ≡ None → f.next ≡ f.condition
    → NothingPrepared f
nothing_prepared f framing none next = λ s shows. record {
  stream = framing ∙ shows.stream;
  dictionaries = λ id. ap (λ c. found_next f.table c id) none ∙ shows.dictionaries id;
  condition = next ∙ shows.condition;
}

-- the state that a feed represents depends on its stream, its dictionaries and its condition alone
pub shows-same :
    (f g : FeedParts) (s : FeedState) → g.framing.current ≡ f.framing.current → g.table ≡ f.table
    → g.condition ≡ f.condition → Shows f s → Shows g s
shows-same f g s framing table c shows = record {
  stream = framing ∙ shows.stream;
  dictionaries = λ id. ap (λ t. found t id) table ∙ shows.dictionaries id;
  condition = c ∙ shows.condition;
}

-- a change that is made
pub committed :
    (f : FeedParts) (s : FeedState) (framing : FramerState) (table : Table) (change : Option Change) (c : Change)
    → Leads f s
    → framing.current ≡ f.framing.prepared → f.change ≡ Some c → Changes f.table table c
    → Shows (parts framing table f.next change f.next) s
committed f s framing table change c leads stream is changes = record {
  stream = stream ∙ leads.stream;
  dictionaries = λ id. changes id ∙ ap (λ m. found_next f.table m id) (sym is) ∙ leads.dictionaries id;
  condition = leads.condition;
}

same-values : (t : Bool) (c : Change) (x : Option (List Datum))
    → unwrap_or (if t then Some c.values else x) [] ≡ (if t then c.values else unwrap_or x [])
same-values true c x = refl
same-values false c x = refl

same : (old new : Table) (c : Change) → Changes old new c → (id : ℤ) → values_in new id ≡ values_next old (Some c) id
same old new c changes id = ap (λ x. unwrap_or x []) (changes id) ∙ same-values (int_eq c.id id) c (found old id)

-- the values once a change is made
pub has-committed :
    (o : Option (List (Rose Entry))) (old new : Table) (c : Change) → Changes old new c
    → HasValues o (values_next old (Some c)) → HasValues o (values_in new)
has-committed None old new c changes has = λ id. same old new c changes id ∙ has id
has-committed (Some fields) old new c changes has = (
  has.0,
  λ id s there. subst (λ vs. All (Holds (value_layout s)) vs) (sym (same old new c changes id))
      (has.1 id s there),
)

-- what holds of every feed holds once it is made
pub feed-uncommitted :
    (f : FeedParts) (framing : FramerState) (c next : Condition) (change : Option Change) → IsFeed f
    → framing.current ≡ f.framing.prepared
    → framing.prepared ≡ f.framing.prepared → f.change ≡ None → change ≡ None
    → IsFeed (parts framing f.table c change next)
feed-uncommitted f framing c next change is done nothing_prepared none gone =
    let has : HasValues f.framing.prepared.known.schema (values_in f.table) =
    subst (λ m. HasValues f.framing.prepared.known.schema (values_next f.table m)) none is.prepared in
    subst (λ m. IsFeed (parts framing f.table c m next)) (sym gone) (record {
      current = subst (λ s. HasValues s.known.schema (values_in f.table)) (sym done) has;
      prepared = subst (λ s. HasValues s.known.schema (values_in f.table)) (sym nothing_prepared) has;
      room = tt;
    })

pub feed-committed :
    (f : FeedParts) (framing : FramerState) (table : Table) (c next : Condition) (change : Option Change)
    (made : Change)
    → IsFeed f
    → framing.current ≡ f.framing.prepared → framing.prepared ≡ f.framing.prepared → f.change ≡ Some made
    → change ≡ None → Changes f.table table made
    → IsFeed (parts framing table c change next)
feed-committed f framing table c next change made is done nothing_prepared some gone changes =
    let ready : HasValues f.framing.prepared.known.schema (values_next f.table (Some made)) =
    subst (λ m. HasValues f.framing.prepared.known.schema (values_next f.table m)) some is.prepared in
    let has : HasValues f.framing.prepared.known.schema (values_in table) =
    has-committed f.framing.prepared.known.schema f.table table made changes ready in
    subst (λ m. IsFeed (parts framing table c m next)) (sym gone) (record {
      current = subst (λ s. HasValues s.known.schema (values_in table)) (sym done) has;
      prepared = subst (λ s. HasValues s.known.schema (values_in table)) (sym nothing_prepared) has;
      room = tt;
    })

-- how the input ends
pub finishes :
    (f : FeedParts) (s : FeedState) (r : Result (Unit {0}) StreamFault)
    → Passes r (finishing_when f.condition f.framing.current) → Shows f s → Finishes s r
unfolding Finishes
finishes f s r passes shows =
    subst (λ st. Passes r (finishing_when s.condition st)) shows.stream
    (subst (λ c. Passes r (finishing_when c f.framing.current)) shows.condition passes)

pub after-finished :
    (f : FeedParts) (s : FeedState) → Shows f s
    → Shows (parts f.framing f.table condition.Finished f.change f.next) (after_finish s (Ok tt))
unfolding after_finish
after-finished f s shows = shows-in f s f.framing f.table condition.Finished f.change f.next shows refl refl

pub after-refused :
    (f : FeedParts) (s : FeedState) (e : StreamFault) → Shows f s
    → Shows (parts f.framing f.table condition.Broken f.change f.next) (after_finish s (Err e))
unfolding after_finish
after-refused f s e shows = shows-in f s f.framing f.table condition.Broken f.change f.next shows refl refl
