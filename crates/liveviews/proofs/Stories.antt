-- What an event of a feed says of its stream.
use Rattle.std.proofs.Common.{
  ◌≡◌,
  ◌⊎◌,
  inl,
  inr,
  ℕ,
  ◌+◌,
  ◌<◌,
  ◌≤◌,
  false,
  Option,
  None,
  Some,
  Ok,
  Err,
  List,
  [],
  ◌∷◌,
  ◌++◌,
  length,
  take,
  drop,
  Any,
  refl,
  ap,
  sym,
  subst,
  ◌∙◌,
  arith,
  append_assoc,
  append-nil,
  length-append,
}
use Rattle.std.specs.Option.{IfSome, IsSome, IsSomeAnd, option_map}
use Rattle.std.proofs.Math.Seq.{drop-append-add, drop-length, take-append-add, take-length}
use Rattle.std.proofs.lemmas.List.{drop-append-le, get_or-append-add, get_or_append_left, take-append-le}
use Rattle.values.specs.Datum.{Datum}
use Rattle.values.specs.Reading.{Reading, FailsWith, ◌>>=◌, one}
use Rattle.values.specs.Rose.{Rose}
use Rattle.arrays.specs.Checked.{CheckedColumn}
use Rattle.values.specs.StreamCauses.{cause_of}
use Rattle.values.specs.declared.faults.StreamFault.{StreamFault}
use Rattle.values.specs.declared.faults.StreamFault.TheVariants as fault
use Rattle.values.specs.declared.causes.Cause.{Cause}
use Rattle.values.specs.declared.causes.Cause.TheVariants as cause
use Rattle.schema_meta.specs.Entry.{Entry}
use Rattle.schema_meta.specs.FieldLayouts.{layouts_of}
use Rattle.schema_meta.specs.Framing.{first}
use Rattle.schema_meta.specs.Rows.{rows_in}
use Rattle.schema_meta.specs.Story.{Story, after_rows}
use Rattle.messages.specs.Laws.{NothingYet}
use Rattle.feed.specs.declared.condition.Condition.{Condition}
use Rattle.feed.specs.declared.condition.Condition.TheVariants as condition
use Rattle.feed.specs.declared.event.Fed.{Fed}
use Rattle.feed.specs.declared.event.FeedEvent.{FeedEvent}
use Rattle.feed.specs.Columns.{layouts_in}
use Rattle.feed.specs.CutLaw.{FaultsStay, PartialJoins, PartialUses, WholeStays, WholeUses, shifted}
use Rattle.feed.specs.Retained.{Retained}
use Rattle.feed.specs.Events.{Event, Given, batch, dictionary, ended, given, given_by, reading, schema}
use Rattle.feed.specs.Shown.{FeedParts, HasColumns, IsTypedEvent, Shows, event_seen, seen}
use Rattle.feed.specs.States.{
  FeedState,
  Gives,
  after_push,
  closed,
  condition_after,
  given_when,
  gives,
  is_broken,
  retained_in,
}
use Rattle.feed.specs.StoryLaw.{
  EventReports,
  FaultsReport,
  IsBetween,
  NoneHeld,
  StoryKnowsSchema,
  rest_story,
  rest_story_from,
}
use Rattle.body_writer.specs.Heavy.{IsHeavy}
use Rattle.liveviews.specs.Refused.{RefusesBatch}
use Rattle.liveviews.proofs.Accounts.{after-shows, gave, gives-fault, uses-some}
use Rattle.liveviews.proofs.Tables.{after-by}
use Rattle.liveviews.specs.Steps.{AreConsumedSo, Ended, GoesOn, HasHeavyRow, IsOpen, Reached, ReadsAs, Refuses}
use Rattle.liveviews.specs.Taken.{AreAccepted}

-- a fault of a stream
pub stands-refuses : (st : Story) (f : StreamFault) → FailsWith st.end f → Refuses st (cause_of f)
stands-refuses st fault.Memory h = tt
stands-refuses st fault.NoContinuation h = (fault.NoContinuation, refl, h)
stands-refuses st fault.BadSize h = (fault.BadSize, refl, h)
stands-refuses st fault.BadTable h = (fault.BadTable, refl, h)
stands-refuses st fault.BadName h = (fault.BadName, refl, h)
stands-refuses st fault.Version h = (fault.Version, refl, h)
stands-refuses st fault.HeaderKind h = (fault.HeaderKind, refl, h)
stands-refuses st fault.BodySize h = (fault.BodySize, refl, h)
stands-refuses st fault.NoSchema h = (fault.NoSchema, refl, h)
stands-refuses st fault.SecondSchema h = (fault.SecondSchema, refl, h)
stands-refuses st fault.BigEndian h = (fault.BigEndian, refl, h)
stands-refuses st fault.UnsupportedType h = (fault.UnsupportedType, refl, h)
stands-refuses st fault.BadType h = (fault.BadType, refl, h)
stands-refuses st fault.TooManyFields h = (fault.TooManyFields, refl, h)
stands-refuses st fault.Compressed h = (fault.Compressed, refl, h)
stands-refuses st fault.DictionaryClash h = (fault.DictionaryClash, refl, h)
stands-refuses st fault.UnknownDictionary h = (fault.UnknownDictionary, refl, h)
stands-refuses st fault.DictionaryTooLarge h = (fault.DictionaryTooLarge, refl, h)
stands-refuses st fault.NodeCount h = (fault.NodeCount, refl, h)
stands-refuses st fault.BufferCount h = (fault.BufferCount, refl, h)
stands-refuses st fault.BadLength h = (fault.BadLength, refl, h)
stands-refuses st fault.BufferRange h = (fault.BufferRange, refl, h)
stands-refuses st fault.BufferShort h = (fault.BufferShort, refl, h)
stands-refuses st fault.NullCount h = (fault.NullCount, refl, h)
stands-refuses st fault.Offsets h = (fault.Offsets, refl, h)
stands-refuses st fault.NotUtf8 h = (fault.NotUtf8, refl, h)
stands-refuses st fault.DictionaryIndex h = (fault.DictionaryIndex, refl, h)
stands-refuses st fault.DecimalRange h = (fault.DecimalRange, refl, h)
stands-refuses st fault.SchemaMismatch h = (fault.SchemaMismatch, refl, h)
stands-refuses st fault.AfterEnd h = (fault.AfterEnd, refl, h)
stands-refuses st fault.Truncated h = (fault.Truncated, refl, h)

-- no byte is no message yet
pub nothing-given : NothingYet → (t : FeedState) → IsBetween t → gives t [] ≡ Ok (given 0 None)
unfolding gives reading
nothing-given none t b =
    let k : Retained = retained_in t in
    ap (λ c. given_when c k []) b.goes_on ∙ ap (λ held. first k.known (held ++ []) >>= given_by k []) b.none_held
    ∙ ap (λ m. m >>= given_by k []) (none k.known)

pub after-none : (t : FeedState) → after_push t [] (Ok (given 0 None)) ≡ t
unfolding after_push
after-none t =
    ap (λ bytes. record { declared = t.declared; bytes = bytes; condition = t.condition }) (append-nil t.bytes)

-- A message may be begun in one piece and ended in the next.
after-joined :
    (t : FeedState) (held piece later : List ℕ) (used : ℕ) (v : Event) → used ≤ length piece
    → after_push t ((held ++ piece) ++ later) (Ok (given (length held + used) (Some v)))
    ≡ after_push (after_push t held (Ok (given (length held) None))) piece (Ok (given used (Some v)))
unfolding after_push
after-joined t held piece later used v within =
    ap (λ bytes. record { declared = t.declared; bytes = bytes; condition = condition_after t.condition (Some v) })
    (ap (λ xs. t.bytes ++ xs) front ∙ sym (append_assoc t.bytes held (take used piece))
    ∙ ap (λ xs. (t.bytes ++ xs) ++ take used piece) (sym (take-length held))) where
      front : take (length held + used) ((held ++ piece) ++ later) ≡ held ++ take used piece
      front =
          ap (take (length held + used)) (append_assoc held piece later)
          ∙ take-append-add held (piece ++ later) used
          ∙ ap (λ xs. held ++ xs) (take-append-le used piece later within)

rest-joined :
    (held piece later : List ℕ) (used : ℕ) → used ≤ length piece
    → drop (length held + used) ((held ++ piece) ++ later) ≡ drop used piece ++ later
rest-joined held piece later used within =
    ap (drop (length held + used)) (append_assoc held piece later) ∙ drop-append-add held (piece ++ later) used
    ∙ drop-append-le used piece later within

after-more :
    (t : FeedState) (held piece : List ℕ)
    → after_push (after_push t held (Ok (given (length held) None))) piece (Ok (given (length piece) None))
    ≡ after_push t (held ++ piece) (Ok (given (length (held ++ piece)) None))
unfolding after_push
after-more t held piece =
    ap (λ bytes. record { declared = t.declared; bytes = bytes; condition = t.condition })
    (ap (λ xs. (t.bytes ++ xs) ++ take (length piece) piece) (take-length held)
    ∙ ap (λ xs. (t.bytes ++ held) ++ xs) (take-length piece) ∙ append_assoc t.bytes held piece
    ∙ ap (λ xs. t.bytes ++ xs) (sym (take-length (held ++ piece))))

-- After the end mark a feed accepts nothing.
closed-some : (piece : List ℕ) → 0 < length piece → closed piece ≡ Err (one fault.AfterEnd)
closed-some [] some = absurd (omega (arith, some))
closed-some (b ∷ bs) some = refl

marked-shut :
    (t : FeedState) (piece : List ℕ) → 0 < length piece → t.condition ≡ condition.Ended
    → gives t piece ≡ Err (one fault.AfterEnd)
unfolding gives
marked-shut t piece some marked = ap (λ c. given_when c (retained_in t) piece) marked ∙ closed-some piece some

marked-gives :
    (t : FeedState) (piece : List ℕ) (g : Given) → 0 < length piece → t.condition ≡ condition.Ended
    → gives t piece ≡ Ok g → ⊥
marked-gives t piece g some marked is =
    let both : Err (one fault.AfterEnd) ≡ Ok g = sym (marked-shut t piece some marked) ∙ is in absurd (cc)

-- what a feed that goes on gives for a piece is what follows its last message in all bytes since
joined-gives :
    (joins : PartialJoins) (t : FeedState) (held piece : List ℕ) (m : Reading Given)
    → gives t held ≡ Ok (given (length held) None)
    → gives (after_push t held (Ok (given (length held) None))) piece ≡ m
    → gives t (held ++ piece) ≡ shifted (length held) m
joined-gives joins t held piece m begun is =
    joins t held piece (given (length held) None) begun refl ∙ ap (shifted (length held)) is

-- A push was refused.
goes-fault :
    (joins : PartialJoins) (stay : FaultsStay) (law : FaultsReport) (st : Story) (rows : List (List Datum))
    (old : FeedParts) (piece later : List ℕ) (g : GoesOn st old rows (piece ++ later)) (m : Reading Given)
    (c : StreamFault)
    → gives (after_push g.state g.held (Ok (given (length g.held) None))) piece ≡ m → FailsWith m c → FailsWith st.end c
goes-fault joins stay law st rows old piece later g (Ok x) c is h = absurd h
goes-fault joins stay law st rows old piece later g (Err fs) c is h =
    let all : List ℕ = (g.held ++ piece) ++ later in
    let joined : gives g.state (g.held ++ piece) ≡ Err fs =
    joined-gives joins g.state g.held piece (Err fs) g.begun is in
    let there : gives g.state all ≡ Err fs = stay g.state (g.held ++ piece) later fs joined in
    let end : st.end ≡ Err fs =
    ap (λ x. x.end) g.tells
    ∙ ap (λ xs. (rest_story (retained_in g.state) xs).end) (sym (append_assoc g.held piece later))
    ∙ ap (λ x. x.end) (law g.state all fs g.between there) in
    subst (λ (x : Reading (Unit {0})). FailsWith x c) (sym end) h

ended-fault :
    (st : Story) (rows : List (List Datum)) (old : FeedParts) (piece later : List ℕ) (c : StreamFault)
    → 0 < length piece → (e : Ended st old rows (piece ++ later)) → FailsWith (gives e.state piece) c → FailsWith st.end c
ended-fault st rows old piece later c some e h =
    let more : 0 < length (piece ++ later) =
    let size : length (piece ++ later) ≡ length piece + length later = length-append piece later in
    omega (arith, size, some) in
    let end : st.end ≡ Err (one fault.AfterEnd) = ap (λ x. x.end) e.tells ∙ after-by (piece ++ later) more in
    let here : FailsWith {X = Unit {0}} (Err (one fault.AfterEnd)) c =
    subst (λ (x : Reading Given). FailsWith x c) (marked-shut e.state piece some e.marked) h in
    subst (λ (x : Reading (Unit {0})). FailsWith x c) (sym end) here

reached-fault :
    (joins : PartialJoins) (stay : FaultsStay) (law : FaultsReport) (st : Story) (rows : List (List Datum))
    (old : FeedParts) (piece later : List ℕ) (f : StreamFault) → 0 < length piece
    → ((t : FeedState) → Shows old t → Gives t piece (Err f)) → Reached st old rows (piece ++ later)
    → (f ≡ fault.Memory) ⊎ FailsWith st.end f
reached-fault joins stay law st rows old piece later f some answer (inl g) =
    let t : FeedState = after_push g.state g.held (Ok (given (length g.held) None)) in
    elim (gives-fault t piece f (answer t g.shows)) [
      | inl memory ↦ inl memory
      | inr stands ↦ inr (goes-fault joins stay law st rows old piece later g (gives t piece) f refl stands)
    ]
reached-fault joins stay law st rows old piece later f some answer (inr e) =
    elim (gives-fault e.state piece f (answer e.state e.shows)) [
      | inl memory ↦ inl memory
      | inr stands ↦ inr (ended-fault st rows old piece later f some e stands)
    ]

pub push-refused :
    (joins : PartialJoins) (stay : FaultsStay) (law : FaultsReport) (st : Story) (rows : List (List Datum))
    (old : FeedParts) (piece later : List ℕ) (f : StreamFault) → 0 < length piece
    → ((t : FeedState) → Shows old t → Gives t piece (Err f)) → Reached st old rows (piece ++ later)
    → Refuses st (cause_of f)
push-refused joins stay law st rows old piece later f some answer r =
    elim (reached-fault joins stay law st rows old piece later f some answer r) [
      | inl memory ↦ subst (λ (g : StreamFault). Refuses st (cause_of g)) (sym memory) tt
      | inr stands ↦ stands-refuses st f stands
    ]

-- A push gave this event, and used n of these bytes.
pub record Came (old new : FeedParts) (bytes : List ℕ) (used : ℕ) (o : Option Event) : Type 0 where
  pub gave : (t : FeedState) → Shows old t → gives t bytes ≡ Ok (given used o)
  pub after : (t : FeedState) → Shows old t → Shows new (after_push t bytes (Ok (given used o)))

given-some :
    (t : FeedState) (bytes : List ℕ) (f : Fed) (o : Option Event) → Gives t bytes (Ok (seen f))
    → option_map event_seen f.event ≡ o
    → gives t bytes ≡ Ok (given f.used o)
unfolding Gives
given-some t bytes f o answer is = answer ∙ ap (λ x. Ok (given f.used x)) is

came-by :
    (old new : FeedParts) (bytes : List ℕ) (f : Fed) (o : Option Event)
    → ((t : FeedState) → Shows old t → Gives t bytes (Ok (seen f)))
    → ((t : FeedState) → Shows old t → Shows new (after_push t bytes (Ok (seen f))))
    → option_map event_seen f.event ≡ o → Came old new bytes f.used o
came-by old new bytes f o answer after same = record {
  gave = λ t shows. given-some t bytes f o (answer t shows) same;
  after = λ t shows. subst (λ (x : Option Event). Shows new (after_push t bytes (Ok (given f.used x)))) same
      (after t shows);
}

pub came :
    (old new : FeedParts) (bytes : List ℕ) (f : Fed) (e : FeedEvent) (v : Event)
    → ((t : FeedState) → Shows old t → Gives t bytes (Ok (seen f)))
    → ((t : FeedState) → Shows old t → Shows new (after_push t bytes (Ok (seen f)))) → f.event ≡ Some e
    → event_seen e ≡ v
    → Came old new bytes f.used (Some v)
came old new bytes f e v answer after there is =
    came-by old new bytes f (Some v) answer after
    (ap (option_map event_seen) there ∙ ap (λ x. Some x) is)

pub came-none :
    (old new : FeedParts) (bytes : List ℕ) (f : Fed)
    → ((t : FeedState) → Shows old t → Gives t bytes (Ok (seen f)))
    → ((t : FeedState) → Shows old t → Shows new (after_push t bytes (Ok (seen f)))) → f.event ≡ None
    → Came old new bytes f.used None
came-none old new bytes f answer after none =
    came-by old new bytes f None answer after (ap (option_map event_seen) none)

-- Some bytes are used, and no more than there are.
pub pushed-uses :
    (all : PartialUses) (uses : WholeUses) (old : FeedParts) (bytes : List ℕ) (f : Fed) → 0 < length bytes
    → IsOpen old
    → ((t : FeedState) → Shows old t → Gives t bytes (Ok (seen f))) → (0 < f.used) × (f.used ≤ length bytes)
pushed-uses all uses old bytes f some (t, shows, goes) answer =
    uses-some all uses t bytes f.used (option_map event_seen f.event) some (gave t bytes f (answer t shows))

-- The feed goes on.
unbroken-after : (c : Condition) (o : Option Event) → is_broken c ≡ false → is_broken (condition_after c o) ≡ false
unbroken-after c None goes = goes
unbroken-after c (Some (schema fields)) goes = goes
unbroken-after c (Some (dictionary id delta values)) goes = goes
unbroken-after c (Some (batch columns rows body)) goes = goes
unbroken-after c (Some ended) goes = refl

pub pushed-open :
    (old new : FeedParts) (bytes : List ℕ) (f : Fed) → IsOpen old
    → ((t : FeedState) → Shows old t → Shows new (after_push t bytes (Ok (seen f)))) → IsOpen new
pushed-open old new bytes f (t, shows, goes) after = (
  after_push t bytes (Ok (seen f)),
  after t shows,
  ap is_broken (after-shows t bytes (seen f))
      ∙ unbroken-after t.condition (option_map event_seen f.event) goes,
)

-- A stream of which these rows were read gave an event, and these bytes follow.
pub record Comes (st : Story) (rows : List (List Datum)) (new : FeedParts) (v : Event) (rest : List ℕ) : Type 0 where
  pub state : FeedState
  pub shows : Shows new state
  pub follows : state.condition ≡ condition_after condition.Opened (Some v)
  pub none_held : (retained_in state).held ≡ []
  pub taken : AreConsumedSo st.schema rows
  pub tells : st ≡ after_rows rows (rest_story_from v (retained_in state) rest)

begun-goes : (t : FeedState) (held : List ℕ) → IsBetween t
    → (after_push t held (Ok (given (length held) None))).condition ≡ condition.Opened
begun-goes t held between = after-shows t held (given (length held) None) ∙ between.goes_on

goes-comes :
    (joins : PartialJoins) (whole : WholeStays) (uses : WholeUses) (law : EventReports) (held : NoneHeld) (st : Story)
    (rows : List (List Datum)) (old new : FeedParts) (piece later : List ℕ) (used : ℕ) (v : Event)
    → Came old new piece used (Some v) → GoesOn st old rows (piece ++ later)
    → Comes st rows new v (drop used piece ++ later)
goes-comes joins whole uses law held st rows old new piece later used v c g =
    let n : ℕ = length g.held in
    let t : FeedState = after_push g.state g.held (Ok (given n None)) in
    let all : List ℕ = (g.held ++ piece) ++ later in
    let gave : gives t piece ≡ Ok (given used (Some v)) = c.gave t g.shows in
    let within : used ≤ length piece = (uses t piece used v gave).1 in
    let joined : gives g.state (g.held ++ piece) ≡ Ok (given (n + used) (Some v)) =
    joined-gives joins g.state g.held piece (Ok (given used (Some v))) g.begun gave in
    let there : gives g.state all ≡ Ok (given (n + used) (Some v)) =
    whole g.state (g.held ++ piece) later (n + used) v joined in
    let next : FeedState = after_push t piece (Ok (given used (Some v))) in
    let P : FeedState → List ℕ → Type 0 = λ x xs. rest_story (retained_in g.state) all
    ≡ rest_story_from v (retained_in x) xs in
    let told : P next (drop used piece ++ later) =
    subst (λ (x : FeedState). P x (drop used piece ++ later)) (after-joined g.state g.held piece later used v within)
    (subst (P (after_push g.state all (Ok (given (n + used) (Some v)))))
    (rest-joined g.held piece later used within) (law g.state all (n + used) v g.between there)) in
    let goes : t.condition ≡ condition.Opened = begun-goes g.state g.held g.between in
    record {
      state = next;
      shows = c.after t g.shows;
      follows = after-shows t piece (given used (Some v)) ∙ ap (λ k. condition_after k (Some v)) goes;
      none_held = held t piece used v goes gave;
      taken = g.taken;
      tells = g.tells
          ∙ ap (λ xs. after_rows rows (rest_story (retained_in g.state) xs)) (sym (append_assoc g.held piece later))
          ∙ ap (after_rows rows) told;
    }

pub comes :
    (joins : PartialJoins) (whole : WholeStays) (uses : WholeUses) (law : EventReports) (held : NoneHeld) (st : Story)
    (rows : List (List Datum)) (old new : FeedParts) (piece later : List ℕ) (used : ℕ) (v : Event)
    → 0 < length piece → Came old new piece used (Some v) → Reached st old rows (piece ++ later)
    → Comes st rows new v (drop used piece ++ later)
comes joins whole uses law held st rows old new piece later used v some c (inl g) =
    goes-comes joins whole uses law held st rows old new piece later used v c g
comes joins whole uses law held st rows old new piece later used v some c (inr e) =
    absurd (marked-gives e.state piece (given used (Some v)) some e.marked (c.gave e.state e.shows))

-- The piece ends within a message.
goes-more :
    (joins : PartialJoins) (all : PartialUses) (st : Story) (rows : List (List Datum)) (old new : FeedParts)
    (piece later : List ℕ) (used : ℕ)
    → Came old new piece used None → GoesOn st old rows (piece ++ later) → GoesOn st new rows (drop used piece ++ later)
goes-more joins all st rows old new piece later used c g =
    let n : ℕ = length g.held in
    let t : FeedState = after_push g.state g.held (Ok (given n None)) in
    let gave : gives t piece ≡ Ok (given used None) = c.gave t g.shows in
    let whole : used ≡ length piece = all t piece used gave in
    let none : drop used piece ≡ [] = ap (λ m. drop m piece) whole ∙ drop-length piece in
    let joined : gives g.state (g.held ++ piece) ≡ Ok (given (n + used) None) =
    joined-gives joins g.state g.held piece (Ok (given used None)) g.begun gave in
    let size : n + used ≡ length (g.held ++ piece) =
    ap (λ m. n + m) whole ∙ sym (length-append g.held piece) in
    record {
      state = g.state;
      held = g.held ++ piece;
      between = g.between;
      begun = joined ∙ ap (λ m. Ok (given m None)) size;
      shows = subst (Shows new)
          (ap (λ m. after_push t piece (Ok (given m None))) whole ∙ after-more g.state g.held piece)
          (c.after t g.shows);
      taken = g.taken;
      tells = g.tells
          ∙ ap (λ xs. after_rows rows (rest_story (retained_in g.state) xs))
          (sym (append_assoc g.held piece later) ∙ ap (λ xs. (g.held ++ piece) ++ (xs ++ later)) (sym none));
    }

pub more-reached :
    (joins : PartialJoins) (all : PartialUses) (st : Story) (rows : List (List Datum)) (old new : FeedParts)
    (piece later : List ℕ) (used : ℕ) → 0 < length piece
    → Came old new piece used None → Reached st old rows (piece ++ later)
    → Reached st new rows (drop used piece ++ later)
more-reached joins all st rows old new piece later used some c (inl g) =
    inl (goes-more joins all st rows old new piece later used c g)
more-reached joins all st rows old new piece later used some c (inr e) =
    absurd (marked-gives e.state piece (given used None) some e.marked (c.gave e.state e.shows))

-- an event after which the stream goes on
pub record Passes (v : Event) : Type 0 where
  pub stays : condition_after condition.Opened (Some v) ≡ condition.Opened

-- between two messages
pub between-goes :
    (none : NothingYet) (st : Story) (rows : List (List Datum)) (f : FeedParts) (rest : List ℕ) (state : FeedState)
    → IsBetween state → Shows f state → AreConsumedSo st.schema rows → ReadsAs st rows (retained_in state) rest
    → GoesOn st f rows rest
between-goes none st rows f rest state between shows taken tells = record {
  state = state;
  held = [];
  between = between;
  begun = nothing-given none state between;
  shows = subst (Shows f) (sym (after-none state)) shows;
  taken = taken;
  tells = tells;
}

comes-between : (st : Story) (rows : List (List Datum)) (new : FeedParts) (v : Event) (rest : List ℕ)
    → Passes v → (c : Comes st rows new v rest) → IsBetween c.state
comes-between st rows new v rest passes c = record { goes_on = c.follows ∙ passes.stays; none_held = c.none_held }

-- a schema, or a dictionary batch
pub next-reached :
    (none : NothingYet) (st : Story) (rows : List (List Datum)) (new : FeedParts) (v : Event) (rest : List ℕ)
    → Passes v → ((k : Retained) (rest : List ℕ) → rest_story_from v k rest ≡ rest_story k rest)
    → Comes st rows new v rest → Reached st new rows rest
next-reached none st rows new v rest passes silent c =
    inl
    (between-goes none st rows new rest c.state (comes-between st rows new v rest passes c) c.shows c.taken
    (c.tells ∙ ap (after_rows rows) (silent (retained_in c.state) rest)))

some-fields : (o : Option (List (Rose Entry))) → IsSome o → (fields : List (Rose Entry)) × (o ≡ Some fields)
some-fields None some = absurd (cc)
some-fields (Some fields) some = (fields, refl)

-- the end mark
pub end-reached :
    (st : Story) (rows : List (List Datum)) (new : FeedParts) (rest : List ℕ)
    → IsSome new.framing.current.known.schema → Comes st rows new ended rest → Reached st new rows rest
end-reached st rows new rest typed c =
    let there = some-fields new.framing.current.known.schema typed in
    inr (record {
      state = c.state;
      shows = c.shows;
      marked = c.follows;
      taken = c.taken;
      tells = c.tells;
      fields = there.0;
      known = sym (ap (λ x. x.known.schema) c.shows.stream) ∙ there.1;
    })

-- a batch of rows: what the stream says, and the columns that it has
pub record ReportsBatch (st : Story) (new : FeedParts) (rows got : List (List Datum)) (rest : List ℕ)
    (fields : List (Rose Entry)) : Type 0 where
  pub state : FeedState
  pub shows : Shows new state
  pub between : IsBetween state
  pub tells : st ≡ after_rows rows (after_rows got (rest_story (retained_in state) rest))
  pub schema : (rest_story (retained_in state) rest).schema ≡ Some fields

pub batch-tells :
    (knows : StoryKnowsSchema) (st : Story) (rows : List (List Datum)) (new : FeedParts) (rest : List ℕ)
    (columns : List (List Datum)) (n body : ℕ) (fields : List (Rose Entry))
    → new.framing.current.known.schema ≡ Some fields → Comes st rows new (batch columns n body) rest
    → ReportsBatch st new rows (rows_in n columns) rest fields
batch-tells knows st rows new rest columns n body fields there c =
    let known : (retained_in c.state).known.schema ≡ Some fields =
    sym (ap (λ x. x.known.schema) c.shows.stream) ∙ there in
    record {
      state = c.state;
      shows = c.shows;
      between = comes-between st rows new (batch columns n body) rest (record { stays = refl }) c;
      tells = c.tells;
      schema = knows (retained_in c.state) rest fields known;
    }

pub batch-reached :
    (none : NothingYet) (knows : StoryKnowsSchema) (st : Story) (rows taken : List (List Datum)) (new : FeedParts)
    (rest : List ℕ) (columns : List (List Datum)) (n body : ℕ) (fields : List (Rose Entry))
    → new.framing.current.known.schema ≡ Some fields → taken ≡ rows ++ rows_in n columns
    → (AreAccepted (layouts_of fields) rows → AreAccepted (layouts_of fields) taken)
    → Comes st rows new (batch columns n body) rest → Reached st new taken rest
batch-reached none knows st rows taken new rest columns n body fields there all retained c =
    let b = batch-tells knows st rows new rest columns n body fields there c in
    let more : Story = rest_story (retained_in b.state) rest in
    let schema : st.schema ≡ Some fields = ap (λ x. x.schema) b.tells ∙ b.schema in
    let before : AreConsumedSo (Some fields) rows =
    subst (λ (o : Option (List (Rose Entry))). AreConsumedSo o rows) schema c.taken in
    let joined : (rows ++ (rows_in n columns ++ more.rows)) ≡ taken ++ more.rows =
    sym (append_assoc rows (rows_in n columns) more.rows) ∙ ap (λ xs. xs ++ more.rows) (sym all) in
    inl
    (between-goes none st taken new rest b.state b.between b.shows
    (subst (λ (o : Option (List (Rose Entry))). AreConsumedSo o taken) (sym schema) (retained before))
    (b.tells ∙ ap (told_with more.schema more.end) joined)) where
      told_with : Option (List (Rose Entry)) → Reading (Unit {0}) → List (List Datum) → Story
      told_with known end xs = record { schema = known; rows = xs; end = end }

any-left : (P : List Datum → Type 0) (xs ys : List (List Datum)) → Any P xs → Any P (xs ++ ys)
any-left P xs ys (k, x, below, is, holds) =
    (k, x, omega (arith, below, length-append xs ys), get_or_append_left xs ys x k below ∙ is, holds)

any-right : (P : List Datum → Type 0) (xs ys : List (List Datum)) → Any P ys → Any P (xs ++ ys)
any-right P xs ys (k, x, below, is, holds) =
    (length xs + k, x, omega (arith, below, length-append xs ys), get_or-append-add xs ys k x ∙ is, holds)

refused-by :
    (st : Story) (new : FeedParts) (rows got : List (List Datum)) (rest : List ℕ) (fields : List (Rose Entry))
    (c : Cause)
    → ReportsBatch st new rows got rest fields → RefusesBatch (layouts_of fields) got (length rows) c → Refuses st c
refused-by st new rows got rest fields cause.Memory b h = tt
refused-by st new rows got rest fields cause.TooManyRows b many =
    let left : List (List Datum) = (rest_story (retained_in b.state) rest).rows in
    let long : length st.rows ≡ length rows + (length got + length left) =
    ap (λ x. length x.rows) b.tells ∙ length-append rows (got ++ left)
    ∙ ap (λ n. length rows + n) (length-append got left) in
    omega (arith, many, long)
refused-by st new rows got rest fields cause.CellTooHeavy b heavy =
    let left : List (List Datum) = (rest_story (retained_in b.state) rest).rows in
    let P : List Datum → Type 0 = IsHeavy (layouts_of fields) in
    let here : Any P (rows ++ (got ++ left)) = any-right P rows (got ++ left) (any-left P got left heavy) in
    let schema : st.schema ≡ Some fields = ap (λ x. x.schema) b.tells ∙ b.schema in
    let Q : Option (List (Rose Entry)) → Type 0 = λ o. HasHeavyRow o st.rows in
    subst Q (sym schema) (subst (Any P) (sym (ap (λ x. x.rows) b.tells)) here)
refused-by st new rows got rest fields _ b h = absurd h

pub batch-refused :
    (knows : StoryKnowsSchema) (st : Story) (rows : List (List Datum)) (new : FeedParts) (rest : List ℕ)
    (columns : List (List Datum)) (n body : ℕ) (fields : List (Rose Entry)) (c : Cause)
    → new.framing.current.known.schema ≡ Some fields
    → RefusesBatch (layouts_of fields) (rows_in n columns) (length rows) c
    → Comes st rows new (batch columns n body) rest → Refuses st c
batch-refused knows st rows new rest columns n body fields c there refused came =
    refused-by st new rows (rows_in n columns) rest fields c
    (batch-tells knows st rows new rest columns n body fields there came) refused

-- the same in the words of the code, which has the columns
pub typed-event :
    (o : Option (List (Rose Entry))) (f : Fed) (e d : FeedEvent) → IfSome f.event (IsTypedEvent o) → f.event ≡ Some e
    → e ≡ d → IsTypedEvent o d
typed-event o f e d typed there is =
    let here : IfSome (Some e) (IsTypedEvent o) =
    subst (λ (x : Option FeedEvent). IfSome x (IsTypedEvent o)) there typed in
    subst (IsTypedEvent o) is here

pub typed-fields :
    (o : Option (List (Rose Entry))) (columns : List CheckedColumn) (n : ℕ)
    → IsSomeAnd o (λ fs. HasColumns fs columns n)
    → (fs : List (Rose Entry)) × (o ≡ Some fs) × (layouts_in columns ≡ layouts_of fs)
typed-fields None columns n typed = absurd typed
typed-fields (Some fs) columns n typed = (fs, refl, typed.0)
