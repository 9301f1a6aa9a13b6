-- What is written of a stream, message by message.
use Rattle.std.proofs.Common.{◌≡◌, ◌⊎◌, inl, inr, ℕ, ◌<◌, ◌≤◌, Bool, true, false, Option, None, Some, Result, Ok, Err, OnOk, IfErr, List, [], ◌∷◌, ◌++◌, length, drop, refl, ap, sym, subst, ◌∙◌, arith, append_assoc, append-nil}
use Rattle.std.specs.Prelude.{if◌then◌else◌, string_bytes}
use Rattle.std.specs.Option.{option_map}
use Rattle.values.specs.Reading.{FailsWith, Reading, mapped}
use Rattle.values.specs.declared.faults.StreamFault.{StreamFault}
use Rattle.values.specs.declared.faults.StreamFault.TheVariants as fault
use Rattle.values.proofs.Readings.{stands_mapped, valid_Ok}
use Rattle.feed.specs.declared.condition.Condition.{Condition}
use Rattle.feed.specs.declared.condition.Condition.TheVariants as condition
use Rattle.feed.specs.declared.event.Fed.{Fed}
use Rattle.feed.specs.CutLaw.{PartialUses, WholeUses}
use Rattle.feed.specs.Events.{Event, Given, batch, dictionary, ended, given, schema}
use Rattle.feed.specs.Retained.{Retained, stream_in}
use Rattle.feed.specs.Shown.{FeedParts, Shows, breaks, event_seen, seen}
use Rattle.feed.specs.States.{FeedState, Finishes, Gives, after_push, closed, condition_after, finishing_when, fresh, given_when, gives, retained_in}
use Rattle.feed.specs.Pieces.{NothingLeft, PushKeeps, RefusalEnds}
use Rattle.feed.specs.Transcript.{Transcript, led_by, no_events, transcript}
use Rattle.liveviews.specs.Inspect.{
  Account,
  Closes,
  ReportsAccount,
  account_in,
  account_of,
  after_lines,
  last_in,
  last_line,
  refusal_line,
}
use Rattle.liveviews.specs.Inspecting.{
  Breaks,
  HasConsumed,
  HasRun,
  IsFresh,
  IsLeft,
  IsOpen,
  StopsAt,
  condition_when,
}
use Rattle.liveviews.specs.declared.inspecting.events.Inspection.{Inspection}
use Rattle.liveviews.specs.Lines.{ended_after, given_lines, is_end}

pub left-open : (a : Account) (i : Inspection) (rest : List ℕ) → IsLeft a i rest → IsOpen i
left-open a i rest l = (l.state, l.shows, l.goes)

-- where it begins
pub fresh-left : (i : Inspection) (bytes : List ℕ) → IsFresh i → IsLeft (account_of bytes) i bytes
fresh-left i bytes f = record {
  state = fresh None;
  shows = f.shows;
  goes = sym (ap condition_when f.before);
  tells = ap (λ t. after_lines t (account_of bytes)) (sym f.empty);
}

-- an account, by its first event
account-led : (o : Option Event) (t : Transcript) → account_in (led_by o t) ≡ after_lines (given_lines o) (account_in t)
account-led None t = refl
account-led (Some e) t = refl

pub push-step :
    (law : PushKeeps) (s : FeedState) (bytes later : List ℕ) (g : Given) → gives s bytes ≡ Ok g
    → account_in (transcript s (bytes ++ later)) ≡ after_lines (given_lines g.event)
    (account_in (transcript (after_push s bytes (Ok g)) (drop g.used bytes ++ later)))
push-step law s bytes later g is =
    ap account_in (law s bytes later g is)
    ∙ account-led g.event (transcript (after_push s bytes (Ok g)) (drop g.used bytes ++ later))

closed-none : (bytes : List ℕ) (used : ℕ) (e : Event) → closed bytes ≡ Ok (given used (Some e)) → ⊥
closed-none [] used e is =
    let same : given 0 None ≡ given used (Some e) = cc in
    let event : None ≡ Some e = ap (λ g. g.event) same in
    absurd (cc)
closed-none (b ∷ bs) used e is = absurd (cc)

-- A feed gives events only before the end.
event-opened : (c : Condition) (k : Retained) (bytes : List ℕ) (used : ℕ) (e : Event)
    → given_when c k bytes ≡ Ok (given used (Some e)) → c ≡ condition.Opened
event-opened condition.Opened k bytes used e is = refl
event-opened condition.Ended k bytes used e is = absurd (closed-none bytes used e is)
event-opened condition.Finished k bytes used e is = absurd (closed-none bytes used e is)
event-opened condition.Broken k bytes used e is = absurd (closed-none bytes used e is)

state-opened : (s : FeedState) (bytes : List ℕ) (used : ℕ) (e : Event) → gives s bytes ≡ Ok (given used (Some e))
    → s.condition ≡ condition.Opened
unfolding gives
state-opened s bytes used e is = event-opened s.condition (retained_in s) bytes used e is

event-ends : (e : Event) → condition_after condition.Opened (Some e) ≡ condition_when (is_end e)
event-ends (schema fields) = refl
event-ends (dictionary id delta values) = refl
event-ends (batch columns rows body) = refl
event-ends ended = refl

goes-on :
    (s : FeedState) (bytes : List ℕ) (used : ℕ) (o : Option Event) (before : Bool) → gives s bytes ≡ Ok (given used o)
    → s.condition ≡ condition_when before → condition_after s.condition o ≡ condition_when (ended_after before o)
goes-on s bytes used None before is goes = goes
goes-on s bytes used (Some e) before is goes =
    ap (λ c. condition_after c (Some e)) (state-opened s bytes used e is) ∙ event-ends e

-- Some bytes are used.
pub uses-some :
    (all : PartialUses) (uses : WholeUses) (s : FeedState) (bytes : List ℕ) (used : ℕ) (o : Option Event)
    → 0 < length bytes
    → gives s bytes ≡ Ok (given used o) → (0 < used) × (used ≤ length bytes)
uses-some all uses s bytes used None some is =
    let whole : used ≡ length bytes = all s bytes used is in (omega (arith, some, whole), omega (arith, whole))
uses-some all uses s bytes used (Some e) some is = uses s bytes used e is

pub gave : (s : FeedState) (bytes : List ℕ) (f : Fed) → Gives s bytes (Ok (seen f)) → gives s bytes ≡ Ok (seen f)
unfolding Gives
gave s bytes f is = is

pub push-uses :
    (all : PartialUses) (uses : WholeUses) (i : Inspection) (bytes : List ℕ) (f : Fed) → 0 < length bytes → IsOpen i
    → ((t : FeedState) → Shows i.feed t → Gives t bytes (Ok (seen f))) → (0 < f.used) × (f.used ≤ length bytes)
push-uses all uses i bytes f some (s, shows, goes) answer =
    uses-some all uses s bytes f.used (option_map event_seen f.event) some (gave s bytes f (answer s shows))

pub after-shows : (s : FeedState) (bytes : List ℕ) (g : Given)
    → (after_push s bytes (Ok g)).condition ≡ condition_after s.condition g.event
unfolding after_push
after-shows s bytes g = refl

-- A push was accepted, and its lines were written.
pub open-step :
    (old new : Inspection) (pushed : FeedParts) (bytes : List ℕ) (f : Fed)
    → ((t : FeedState) → Shows old.feed t → Gives t bytes (Ok (seen f)))
    → ((t : FeedState) → Shows old.feed t → Shows pushed (after_push t bytes (Ok (seen f)))) → new.feed ≡ pushed
    → new.ended ≡ ended_after old.ended (option_map event_seen f.event) → IsOpen old → IsOpen new
open-step old new pushed bytes f answer after feed marked (s, shows, goes) =
    let is : gives s bytes ≡ Ok (seen f) = gave s bytes f (answer s shows) in
    let next : FeedState = after_push s bytes (Ok (seen f)) in (
      next,
      subst (λ (p : FeedParts). Shows p next) (sym feed) (after s shows),
      after-shows s bytes (seen f)
          ∙ goes-on s bytes f.used (option_map event_seen f.event) old.ended is goes
          ∙ ap condition_when (sym marked),
    )

pub left-step :
    (law : PushKeeps) (a : Account) (old new : Inspection) (pushed : FeedParts) (bytes later : List ℕ) (f : Fed)
    → ((t : FeedState) → Shows old.feed t → Gives t bytes (Ok (seen f)))
    → ((t : FeedState) → Shows old.feed t → Shows pushed (after_push t bytes (Ok (seen f)))) → new.feed ≡ pushed
    → string_bytes new.text ≡ string_bytes old.text ++ given_lines (option_map event_seen f.event)
    → new.ended ≡ ended_after old.ended (option_map event_seen f.event) → IsLeft a old (bytes ++ later)
    → IsLeft a new (drop f.used bytes ++ later)
left-step law a old new pushed bytes later f answer after feed text marked l =
    let o : Option Event = option_map event_seen f.event in
    let is : gives l.state bytes ≡ Ok (seen f) = gave l.state bytes f (answer l.state l.shows) in
    let next : FeedState = after_push l.state bytes (Ok (seen f)) in
    let rest : Account = account_in (transcript next (drop f.used bytes ++ later)) in
    record {
      state = next;
      shows = subst (λ (p : FeedParts). Shows p next) (sym feed) (after l.state l.shows);
      goes =
          after-shows l.state bytes (seen f) ∙ goes-on l.state bytes f.used o old.ended is l.goes
          ∙ ap condition_when (sym marked);
      tells =
          l.tells ∙ ap (after_lines (string_bytes old.text)) (push-step law l.state bytes later (seen f) is)
          ∙ ap (λ t. record { lines = t; end = rest.end })
          (sym (append_assoc (string_bytes old.text) (given_lines o) rest.lines))
          ∙ ap (λ t. after_lines t rest) (sym text);
    }

pub gives-fault : (s : FeedState) (bytes : List ℕ) (f : StreamFault) → Gives s bytes (Err f)
    → (f ≡ fault.Memory) ⊎ FailsWith (gives s bytes) f
unfolding Gives
gives-fault s bytes fault.Memory h = inl refl
gives-fault s bytes fault.NoContinuation h = inr h
gives-fault s bytes fault.BadSize h = inr h
gives-fault s bytes fault.BadTable h = inr h
gives-fault s bytes fault.BadName h = inr h
gives-fault s bytes fault.Version h = inr h
gives-fault s bytes fault.HeaderKind h = inr h
gives-fault s bytes fault.BodySize h = inr h
gives-fault s bytes fault.NoSchema h = inr h
gives-fault s bytes fault.SecondSchema h = inr h
gives-fault s bytes fault.BigEndian h = inr h
gives-fault s bytes fault.UnsupportedType h = inr h
gives-fault s bytes fault.BadType h = inr h
gives-fault s bytes fault.TooManyFields h = inr h
gives-fault s bytes fault.Compressed h = inr h
gives-fault s bytes fault.DictionaryClash h = inr h
gives-fault s bytes fault.UnknownDictionary h = inr h
gives-fault s bytes fault.DictionaryTooLarge h = inr h
gives-fault s bytes fault.NodeCount h = inr h
gives-fault s bytes fault.BufferCount h = inr h
gives-fault s bytes fault.BadLength h = inr h
gives-fault s bytes fault.BufferRange h = inr h
gives-fault s bytes fault.BufferShort h = inr h
gives-fault s bytes fault.NullCount h = inr h
gives-fault s bytes fault.Offsets h = inr h
gives-fault s bytes fault.NotUtf8 h = inr h
gives-fault s bytes fault.DictionaryIndex h = inr h
gives-fault s bytes fault.DecimalRange h = inr h
gives-fault s bytes fault.SchemaMismatch h = inr h
gives-fault s bytes fault.AfterEnd h = inr h
gives-fault s bytes fault.Truncated h = inr h

pub stops-at :
    (law : RefusalEnds) (a : Account) (s : FeedState) (text bytes later : List ℕ) (f : StreamFault) (m : Reading Given)
    → 0 < length bytes
    → a ≡ after_lines text (account_in (transcript s (bytes ++ later))) → gives s bytes ≡ m → FailsWith m f
    → StopsAt a text f
stops-at law a s text bytes later f (Ok g) some tells is stands = absurd stands
stops-at law a s text bytes later f (Err fs) some tells is stands =
    let none : transcript s (bytes ++ later) ≡ no_events (Err fs) = law s bytes later fs some is in
    let here : a ≡ after_lines text (record { lines = []; end = Err fs }) =
    tells ∙ ap (λ t. after_lines text (account_in t)) none in
    record {
      whole = sym (ap (λ x. x.lines) here ∙ append-nil text);
      stands = subst (λ (x : Reading (List ℕ)). FailsWith x f) (sym (ap (λ x. x.end) here)) stands;
    }

-- A push was refused.
pub left-breaks :
    (law : RefusalEnds) (a : Account) (i : Inspection) (bytes later : List ℕ) (f : StreamFault) → 0 < length bytes
    → ((t : FeedState) → Shows i.feed t → Gives t bytes (Err f)) → IsLeft a i (bytes ++ later)
    → Breaks a (string_bytes i.text) f
left-breaks law a i bytes later f some answer l = elim (gives-fault l.state bytes f (answer l.state l.shows)) [
  | inl memory ↦ inl memory
  | inr stands ↦ inr
      (stops-at law a l.state (string_bytes i.text) bytes later f (gives l.state bytes) some l.tells refl stands)
]

-- Nothing remains of a piece.
no-bytes : (bytes : List ℕ) → length bytes ≤ 0 → bytes ≡ []
no-bytes [] none = refl
no-bytes (b ∷ bs) none = absurd (omega (arith, none))

-- A whole input is a piece after which nothing comes.
pub left-whole : (a : Account) (i : Inspection) (bytes : List ℕ) → IsLeft a i bytes → IsLeft a i (bytes ++ [])
left-whole a i bytes l = subst (IsLeft a i) (sym (append-nil bytes)) l

-- the end of the input
abbrev at_end : FeedState → Account
at_end s = record { lines = []; end = last_in s }

at-end-tells : (law : NothingLeft) (a : Account) (i : Inspection) → (l : IsLeft a i [])
    → a ≡ after_lines (string_bytes i.text) (at_end l.state)
at-end-tells law a i l = l.tells ∙ ap (λ t. after_lines (string_bytes i.text) (account_in t)) (law l.state)

pub finish-valid : (s : FeedState) (u : Unit {0}) → Finishes s (Ok u)
    → (x : Unit {0}) × (finishing_when s.condition (stream_in (retained_in s)) ≡ Ok x)
unfolding Finishes
finish-valid s u h = valid_Ok (finishing_when s.condition (stream_in (retained_in s))) h

pub finish-fault : (s : FeedState) (f : StreamFault) → Finishes s (Err f)
    → FailsWith (finishing_when s.condition (stream_in (retained_in s))) f
unfolding Finishes
finish-fault s f h = h

last-when : (marked : Bool) → last_line (condition_when marked) ≡ (if marked then [] else last_line condition.Opened)
last-when true = refl
last-when false = refl

pub left-finishes :
    (law : NothingLeft) (a : Account) (i : Inspection) (u : Unit {0}) (text : List ℕ) → IsLeft a i []
    → ((t : FeedState) → Shows i.feed t → Finishes t (Ok u))
    → text ≡ string_bytes i.text ++ (if i.ended then [] else last_line condition.Opened) → ReportsAccount a text 0
left-finishes law a i u text l answer written =
    let valid = finish-valid l.state u (answer l.state l.shows) in
    let last : List ℕ = last_line l.state.condition in
    let here : a ≡ after_lines (string_bytes i.text) (at_end l.state) = at-end-tells law a i l in
    let end : a.end ≡ Ok last = ap (λ x. x.end) here ∙ ap (λ m. mapped (λ u. last) m) valid.1 in
    let named : (if i.ended then [] else last_line condition.Opened) ≡ last =
    sym (ap last_line l.goes ∙ last-when i.ended) in
    record {
      last = last;
      whole =
          written ∙ ap (λ t. string_bytes i.text ++ t) named
          ∙ ap (λ t. t ++ last) (sym (ap (λ x. x.lines) here ∙ append-nil (string_bytes i.text)));
      closes = subst (λ (m : Reading (List ℕ)). Closes m last 0) (sym end) (refl, refl);
    }

pub left-ends :
    (law : NothingLeft) (a : Account) (i : Inspection) (c : StreamFault) → IsLeft a i []
    → ((t : FeedState) → Shows i.feed t → Finishes t (Err c))
    → Breaks a (string_bytes i.text) c
left-ends law a i c l answer =
    let here : a ≡ after_lines (string_bytes i.text) (at_end l.state) = at-end-tells law a i l in
    let stands =
    stands_mapped (λ u. last_line l.state.condition)
    (finishing_when l.state.condition (stream_in (retained_in l.state))) c
    (finish-fault l.state c (answer l.state l.shows)) in
    inr (record {
      whole = sym (ap (λ x. x.lines) here ∙ append-nil (string_bytes i.text));
      stands = subst (λ (m : Reading (List ℕ)). FailsWith m c) (sym (ap (λ x. x.end) here)) stands;
    })

-- the line of the refusal
refused-ends : (m : Reading (List ℕ)) (f : StreamFault) → FailsWith m f → Closes m (refusal_line f) 1
refused-ends (Ok x) f stands = absurd stands
refused-ends (Err fs) f stands = (f, stands, refl, refl)

pub stop-tells : (a : Account) (text : List ℕ) (f : StreamFault) (all : List ℕ) → StopsAt a text f
    → all ≡ text ++ refusal_line f → ReportsAccount a all 1
stop-tells a text f all s is = record {
  last = refusal_line f;
  whole = is ∙ ap (λ t. t ++ refusal_line f) s.whole;
  closes = refused-ends a.end f s.stands;
}

pub written-end :
    (marked : Bool) (old new : List ℕ) → marked ≡ false → new ≡ old ++ last_line condition.Opened
    → new ≡ old ++ (if marked then [] else last_line condition.Opened)
written-end true old new is written = absurd (cc)
written-end false old new is written = written

pub written-none : (marked : Bool) (old : List ℕ) → marked ≡ true
    → old ≡ old ++ (if marked then [] else last_line condition.Opened)
written-none true old is = sym (append-nil old)
written-none false old is = absurd (cc)

-- the result for a whole input
pub has-run :
    (text input : List ℕ) (ran : Result (Unit {0}) StreamFault) → OnOk ran (ReportsAccount (account_of input) text 0)
    → IfErr ran (Breaks (account_of input) text) → HasRun text ran input
has-run text input (Ok u) tells breaks = tells
has-run text input (Err f) tells breaks = breaks

-- A fault in a piece is one of the stream, whatever comes after the piece.
pub takes-more :
    (i : Inspection) (piece : List ℕ) (new : Inspection)
    → ((a : Account) (later : List ℕ) → IsLeft a i (piece ++ later) → IsLeft a new later) → (bytes : List ℕ)
    → ((later : List ℕ) → IsLeft (account_of (bytes ++ later)) i later) → (later : List ℕ)
    → IsLeft (account_of ((bytes ++ piece) ++ later)) new later
takes-more i piece new goes bytes left later =
    goes (account_of ((bytes ++ piece) ++ later)) later
    (subst (λ (xs : List ℕ). IsLeft (account_of xs) i (piece ++ later)) (sym (append_assoc bytes piece later))
    (left (piece ++ later)))

pub takes-fault :
    (i new : Inspection) (piece : List ℕ) (f : StreamFault)
    → ((a : Account) (later : List ℕ) → IsLeft a i (piece ++ later) → Breaks a (string_bytes new.text) f)
    → (bytes later : List ℕ) → ((later : List ℕ) → IsLeft (account_of (bytes ++ later)) i later)
    → HasConsumed new (Err f) ((bytes ++ piece) ++ later)
takes-fault i new piece f stops bytes later left =
    stops (account_of ((bytes ++ piece) ++ later)) later
    (subst (λ (xs : List ℕ). IsLeft (account_of xs) i (piece ++ later)) (sym (append_assoc bytes piece later))
    (left (piece ++ later)))

pub takes-all :
    (i : Inspection) (u : Unit {0}) (bytes : List ℕ) → ((later : List ℕ) → IsLeft (account_of (bytes ++ later)) i later)
    → HasConsumed i (Ok u) bytes
takes-all i u bytes left = subst (λ (xs : List ℕ). IsLeft (account_of xs) i []) (append-nil bytes) (left [])

-- A fault was reported that isn't want of memory.
breaks-tell :
    (text input : List ℕ) (f : StreamFault) (all : List ℕ) → (f ≡ fault.Memory → ⊥) → Breaks (account_of input) text f
    → all ≡ text ++ refusal_line f → ReportsAccount (account_of input) all 1
breaks-tell text input f all other (inl memory) written = absurd (other memory)
breaks-tell text input f all other (inr stops) written = stop-tells (account_of input) text f all stops written

pub fault-told :
    (text input : List ℕ) (ran : Result (Unit {0}) StreamFault) (f : StreamFault) (all : List ℕ) → ran ≡ Err f
    → (f ≡ fault.Memory → ⊥) → HasRun text ran input → all ≡ text ++ refusal_line f → ReportsAccount (account_of input) all 1
fault-told text input ran f all is other h written =
    breaks-tell text input f all other
    (subst (λ (r : Result (Unit {0}) StreamFault). HasRun text r input) is h) written
