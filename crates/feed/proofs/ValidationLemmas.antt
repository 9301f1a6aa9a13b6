-- The outcome for a piece, by the message that it completes.
use Rattle.std.proofs.Common.{
  ◌≡◌,
  ℕ,
  ℤ,
  ◌+◌,
  ◌-◌,
  Option,
  None,
  Some,
  Ok,
  Err,
  List,
  [],
  ◌++◌,
  length,
  take,
  refl,
  ap,
  sym,
  subst,
  ◌∙◌,
  arith,
}
use Rattle.std.specs.Prelude.{slice_range, unwrap_or}
use Rattle.std.specs.Map.{lookup}
use Rattle.std.specs.Ordering.{int_eq}
use Rattle.std.proofs.Math.Seq.{take-length}
use Rattle.values.specs.Datum.{Datum}
use Rattle.values.specs.Rose.{Rose}
use Rattle.values.specs.Reading.{Fails, Reading, ◌>>=◌, FailsWith, mapped}
use Rattle.values.specs.declared.faults.StreamFault.{StreamFault}
use Rattle.values.proofs.Readings.{fails_along}
use Rattle.dictionaries.specs.Batches.{dictionary_after}
use Rattle.dictionaries.specs.Law.{ValuesAfter}
use Rattle.dictionaries.specs.Table.{Change, Table, values_in}
use Rattle.values.specs.Logical.{NamedType}
use Rattle.schema_meta.specs.Entry.{Entry}
use Rattle.schema_meta.specs.declared.header.Header.{Header}
use Rattle.schema_meta.specs.declared.header.Header.TheVariants as header
use Rattle.schema_meta.specs.Framing.{first}
use Rattle.schema_meta.specs.PlaceLaw.{SameArraysLaw}
use Rattle.schema_meta.specs.Rows.{columns_in}
use Rattle.schema_meta.specs.Sound.{after, schema_after}
use Rattle.schema_meta.specs.Stage.{Known, Whole, end_of}
use Rattle.messages.specs.declared.headers.Framed.{Framed}
use Rattle.messages.specs.Handed.{MessageView}
use Rattle.messages.specs.Laws.{FirstMessageLaw}
use Rattle.messages.specs.MessageLaw.{Brings, IsMessage, MessageLaw}
use Rattle.messages.specs.Stream.{Frames, Stream, message_of}
use Rattle.feed.specs.Retained.{Retained, retained_of, stream_in}
use Rattle.feed.specs.Events.{Event, batch, event_by, event_in, given, given_by, reading}
use Rattle.feed.specs.Shown.{HasValues, IsAt, WillBeAt, WillHoldAfter}
use Rattle.feed.specs.Calls.{Adds, message_brings, message_event}
use Rattle.feed.proofs.RetainedLemmas.{after-partial, after-whole}

stands-bind : {X Y : Type 0} (m : Reading X) (f : X → Reading Y) (c : StreamFault) → FailsWith m c → FailsWith (m >>= f) c
stands-bind (Ok x) f c h = absurd h
stands-bind (Err fs) f c h = h

stands-mapped : {X Y : Type 0} (f : X → Y) (m : Reading X) (c : StreamFault) → FailsWith m c → FailsWith (mapped f m) c
stands-mapped f (Ok x) c h = absurd h
stands-mapped f (Err fs) c h = h

-- where the framing or the metadata has a fault
pub validated-fault :
    (k : Retained) (old : Stream) (t : Table) (piece : List ℕ) (c : StreamFault) → IsAt k old t
    → Fails c (first old.known (old.held ++ piece))
    → Fails c (reading k piece)
unfolding reading
validated-fault k old t piece c at fails =
    let here : Fails c (first k.known (k.held ++ piece)) =
    subst (λ s. Fails c (first s.known (s.held ++ piece))) at.0 fails in
    fails_along c (first k.known (k.held ++ piece)) (first k.known (k.held ++ piece) >>= given_by k piece)
    (λ d h. stands-bind (first k.known (k.held ++ piece)) (given_by k piece) d h) here

-- where no message is whole
record Waits (k : Retained) (piece : List ℕ) (used : ℕ) (new : Stream) : Type 0 where
  is : first k.known (k.held ++ piece) ≡ Ok None
  all : used ≡ length piece
  next : new ≡ record { known = k.known; held = k.held ++ piece }

waits-by :
    (k : Retained) (piece : List ℕ) (f : Framed) (new : Stream) (r : Reading (Option Whole))
    → first k.known (k.held ++ piece) ≡ r
    → Frames r (stream_in k) piece f new → f.message ≡ None → Waits k piece f.used new
waits-by k piece f new (Ok None) is frames none = record { is = is; all = frames.0; next = frames.2 }
waits-by k piece f new (Ok (Some w)) is frames none =
    absurd (some-none f.message (message_of k.known w (k.held ++ piece)) frames.1 none) where
      some-none : (m : Option MessageView) (v : MessageView) → m ≡ Some v → m ≡ None → ⊥
      some-none None v a b = absurd (cc)
      some-none (Some x) v a b = absurd (cc)
waits-by k piece f new (Err fs) is frames none = absurd frames

frames-at :
    (k : Retained) (old new : Stream) (t : Table) (piece : List ℕ) (f : Framed) → IsAt k old t
    → Frames (first old.known (old.held ++ piece)) old piece f new
    → Frames (first k.known (k.held ++ piece)) (stream_in k) piece f new
frames-at k old new t piece f at frames =
    subst (λ s. Frames (first s.known (s.held ++ piece)) s piece f new) at.0 frames

waits :
    (k : Retained) (old new : Stream) (t : Table) (piece : List ℕ) (f : Framed) → IsAt k old t
    → Frames (first old.known (old.held ++ piece)) old piece f new → f.message ≡ None → Waits k piece f.used new
waits k old new t piece f at frames none =
    waits-by k piece f new (first k.known (k.held ++ piece)) refl (frames-at k old new t piece f at frames) none

pub validated-none :
    (k : Retained) (old new : Stream) (t : Table) (piece : List ℕ) (f : Framed) → IsAt k old t
    → Frames (first old.known (old.held ++ piece)) old piece f new → f.message ≡ None
    → reading k piece ≡ Ok (given f.used None)
unfolding reading
validated-none k old new t piece f at frames none =
    let w = waits k old new t piece f at frames none in
    ap (λ r. r >>= given_by k piece) w.is ∙ ap (λ n. Ok (given n None)) (sym w.all)

-- where a message is whole
pub record Came (k : Retained) (piece : List ℕ) (used : ℕ) (m : MessageView) (new : Stream) : Type 0 where
  pub whole : Whole
  pub is : first k.known (k.held ++ piece) ≡ Ok (Some whole)
  pub size : used + length k.held ≡ end_of whole
  pub seen : m ≡ message_of k.known whole (k.held ++ piece)
  pub next : new ≡ record { known = after k.known whole.meta; held = [] }

came-by :
    (k : Retained) (piece : List ℕ) (f : Framed) (m : MessageView) (new : Stream) (r : Reading (Option Whole))
    → first k.known (k.held ++ piece) ≡ r
    → Frames r (stream_in k) piece f new → f.message ≡ Some m → Came k piece f.used m new
came-by k piece f m new (Ok None) is frames some = absurd (none-some f.message m frames.1 some) where
  none-some : (x : Option MessageView) (v : MessageView) → x ≡ None → x ≡ Some v → ⊥
  none-some None v a b = absurd (cc)
  none-some (Some x) v a b = absurd (cc)
came-by k piece f m new (Ok (Some w)) is frames some =
    record {
      whole = w;
      is = is;
      size = frames.0;
      seen = same f.message m (message_of k.known w (k.held ++ piece)) some frames.1;
      next = frames.2;
    } where
      same : (x : Option MessageView) (a b : MessageView) → x ≡ Some a → x ≡ Some b → a ≡ b
      same None a b p q = absurd (cc)
      same (Some x) a b p q = cc
came-by k piece f m new (Err fs) is frames some = absurd frames

pub came :
    (k : Retained) (old new : Stream) (t : Table) (piece : List ℕ) (f : Framed) (m : MessageView) → IsAt k old t
    → Frames (first old.known (old.held ++ piece)) old piece f new → f.message ≡ Some m → Came k piece f.used m new
came k old new t piece f m at frames some =
    came-by k piece f m new (first k.known (k.held ++ piece)) refl (frames-at k old new t piece f at frames) some

-- an event uses no more of the dictionaries than their values
event-same :
    (law : SameArraysLaw) (fields : List (Rose Entry)) (values others : ℤ → List Datum) (body : List ℕ) (h : Header)
    → ((id : ℤ) → values id ≡ others id)
    → event_in fields values body h ≡ event_in fields others body h
event-same law fields values others body header.Schema same = refl
event-same law fields values others body (header.Dictionary d) same = refl
event-same law fields values others body (header.Batch b) same =
    ap (λ ts. mapped (λ columns. batch columns b.rows (length body)) (columns_in body ts))
    (law values others fields b same)
event-same law fields values others body header.End same = refl

-- the piece, by the event of its message
read-came :
    (law : SameArraysLaw) (batches : ValuesAfter) (k : Retained) (old new : Stream) (t : Table) (piece : List ℕ)
    (used : ℕ)
    (m : MessageView)
    → IsAt k old t → Came k piece used m new
    → reading k piece ≡ mapped (λ e. given used (Some e)) (message_event m (values_in t))
unfolding reading
read-came law batches k old new t piece used m at c =
    let now : Known = after k.known c.whole.meta in
    let body : List ℕ = slice_range (k.held ++ piece) c.whole.front (end_of c.whole) in
    let size : end_of c.whole - length k.held ≡ used = omega (arith, c.size) in
    ap (λ r. r >>= given_by k piece) c.is
    ∙ ap (λ n. mapped (λ e. given n (Some e)) (event_by now k.dictionaries body c.whole.meta.header)) size
    ∙ ap (λ v. mapped (λ e. given used (Some e)) (message_event v (dictionary_after k.dictionaries))) (sym c.seen)
    ∙ ap (λ r. mapped (λ e. given used (Some e)) r)
    (sym (event-same law m.schema (values_in t) (dictionary_after k.dictionaries) m.body m.header
    (batches k.dictionaries t at.1)))

pub validated-event :
    (law : SameArraysLaw) (batches : ValuesAfter) (k : Retained) (old new : Stream) (t : Table) (piece : List ℕ)
    (used : ℕ)
    (m : MessageView) (e : Event)
    → IsAt k old t → Came k piece used m new → message_event m (values_in t) ≡ Ok e
    → reading k piece ≡ Ok (given used (Some e))
validated-event law batches k old new t piece used m e at c is =
    read-came law batches k old new t piece used m at c ∙ ap (λ r. mapped (λ x. given used (Some x)) r) is

pub validated-body :
    (law : SameArraysLaw) (batches : ValuesAfter) (k : Retained) (old new : Stream) (t : Table) (piece : List ℕ)
    (used : ℕ)
    (m : MessageView)
    (c : StreamFault) → IsAt k old t → Came k piece used m new → Fails c (message_event m (values_in t))
    → Fails c (reading k piece)
validated-body law batches k old new t piece used m c at x fails =
    let r : Reading Event = message_event m (values_in t) in
    subst (Fails c) (sym (read-came law batches k old new t piece used m at x))
    (fails_along c r (mapped (λ e. given used (Some e)) r) (λ d h. stands-mapped (λ e. given used (Some e)) r d h)
    fails)

-- where it leads
pub leads-none :
    (laws : FirstMessageLaw) (declared : Option (List (Rose NamedType))) (bytes : List ℕ) (old new : Stream)
    (t u : Table) (piece : List ℕ) (f : Framed)
    → IsAt (retained_of declared bytes) old t → Frames (first old.known (old.held ++ piece)) old piece f new
    → f.message ≡ None
    → u.entries ≡ t.entries → WillBeAt (retained_of declared (bytes ++ take f.used piece)) new u None
leads-none laws declared bytes old new t u piece f at frames none same =
    let k : Retained = retained_of declared bytes in
    let w = waits k old new t piece f at frames none in
    let all : take f.used piece ≡ piece = ap (λ n. take n piece) w.all ∙ take-length piece in
    let next :
    retained_of declared (bytes ++ take f.used piece) ≡ record {
      known = k.known;
      dictionaries = k.dictionaries;
      held = k.held ++ piece;
    } =
    ap (λ xs. retained_of declared (bytes ++ xs)) all ∙ after-partial laws declared bytes piece k refl w.is in
    subst (λ x. WillBeAt x new u None) (sym next) (w.next, λ id. ap (λ es. lookup (int_eq id) es) same ∙ at.1 id)

pub leads-whole :
    (laws : FirstMessageLaw) (declared : Option (List (Rose NamedType))) (bytes : List ℕ) (old new : Stream)
    (t u : Table) (piece : List ℕ)
    (used : ℕ) (m : MessageView) (change : Option Change) → IsAt (retained_of declared bytes) old t
    → Came (retained_of declared bytes) piece used m new
    → Adds t u change (message_brings m) → WillBeAt (retained_of declared (bytes ++ take used piece)) new u change
leads-whole laws declared bytes old new t u piece used m change at c adds =
    let k : Retained = retained_of declared bytes in
    let next = after-whole laws declared bytes piece k c.whole used refl c.is c.size in
    subst (λ x. WillBeAt x new u change) (sym next) (
      c.next,
      subst (λ v. WillHoldAfter (k.dictionaries ++ message_brings v) u change) c.seen (adds k.dictionaries at.1),
    )

-- The dictionaries' values are of their types also after a Schema message: there are none yet.
has-brought :
    (o m : Option (List (Rose Entry))) (h : Header) (values : ℤ → List Datum) → Brings o m h → HasValues o values
    → HasValues (schema_after o m) values
has-brought o m header.Schema values b has =
    let none : HasValues None values = subst (λ x. HasValues x values) b.new has in
    let some : HasValues (Some b.fields) values =
    (b.read, λ id s there k d below. absurd (omega (arith, below, ap (λ xs. length xs) (none id)))) in
    subst (λ x. HasValues (schema_after o x) values) (sym b.is) some
has-brought o m (header.Dictionary d) values b has = subst (λ x. HasValues (schema_after o x) values) (sym b) has
has-brought o m (header.Batch d) values b has = subst (λ x. HasValues (schema_after o x) values) (sym b) has
has-brought o m header.End values b has = subst (λ x. HasValues (schema_after o x) values) (sym b) has

frames-message :
    (law : MessageLaw) (old new : Stream) (piece : List ℕ) (f : Framed) (r : Reading (Option Whole)) (values : ℤ
    → List Datum)
    → first old.known (old.held ++ piece) ≡ r → Frames r old piece f new → HasValues old.known.schema values
    → HasValues new.known.schema values
frames-message law old new piece f (Ok None) values is frames has =
    subst (λ s. HasValues s.known.schema values) (sym frames.2) has
frames-message law old new piece f (Ok (Some w)) values is frames has =
    let m : IsMessage old.known (old.held ++ piece) w = law old.known (old.held ++ piece) w is in
    subst (λ s. HasValues s.known.schema values) (sym frames.2)
    (has-brought old.known.schema w.meta.schema w.meta.header values m.brings has)
frames-message law old new piece f (Err fs) values is frames has = absurd frames

pub has-after :
    (law : MessageLaw) (old new : Stream) (piece : List ℕ) (f : Framed) (values : ℤ → List Datum)
    → Frames (first old.known (old.held ++ piece)) old piece f new → HasValues old.known.schema values
    → HasValues new.known.schema values
has-after law old new piece f values frames has =
    frames-message law old new piece f (first old.known (old.held ++ piece)) values refl frames has

-- the same of a table with the same entries
pub has-same : (o : Option (List (Rose Entry))) (t u : Table) → u.entries ≡ t.entries → HasValues o (values_in t)
    → HasValues o (values_in u)
has-same o t u same has = subst (λ es. HasValues o (λ id. unwrap_or (lookup (int_eq id) es) [])) (sym same) has
