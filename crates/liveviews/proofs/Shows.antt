-- What was shown of a stream, message by message.
use Rattle.std.proofs.Common.{◌≡◌, inl, inr, ℕ, ◌<◌, ◌≤◌, Option, None, Some, Ok, Err, List, [], ◌++◌, length, drop, All, refl, ap, sym, subst, ◌∙◌, arith, append_assoc, append-nil}
use Rattle.std.specs.Prelude.{IfErr, OnOk, Result}
use Rattle.std.specs.Option.{IfSome, option_map}
use Rattle.values.specs.Reading.{FailsWith, Reading, mapped}
use Rattle.values.specs.declared.faults.StreamFault.{StreamFault}
use Rattle.values.specs.Rose.{Rose}
use Rattle.values.proofs.Readings.{stands_mapped}
use Rattle.arrays.specs.Checked.{CheckedColumn}
use Rattle.schema_meta.specs.Entry.{Entry}
use Rattle.schema_meta.specs.Story.{story_of}
use Rattle.feed.specs.declared.event.Fed.{Fed}
use Rattle.feed.specs.declared.event.FeedEvent.{FeedEvent}
use Rattle.feed.specs.declared.event.FeedEvent.TheVariants as feed_event
use Rattle.feed.specs.Events.{Event}
use Rattle.feed.specs.Retained.{stream_in}
use Rattle.feed.specs.Shown.{FeedParts, IsTypedEvent, Shows, event_seen, seen}
use Rattle.feed.specs.States.{FeedState, Finishes, Gives, after_push, finishing_when, fresh, gives, retained_in}
use Rattle.feed.specs.Pieces.{NothingLeft, PushKeeps, RefusalEnds}
use Rattle.feed.specs.Transcript.{transcript}
use Rattle.liveviews.specs.Inspect.{Account, EndsAlike, account_in, account_of, after_lines, last_in, last_line, status_where}
use Rattle.liveviews.specs.Lines.{given_lines}
use Rattle.liveviews.specs.Source.{HoldsFile, OfSource}
use Rattle.liveviews.specs.Showing.{HasCells, HasPassed, IsFault, IsShown, Remains, ShowsFile}
use Rattle.liveviews.specs.declared.show.ShowFault.{ShowFault}
use Rattle.liveviews.specs.declared.show.ShowFault.TheVariants as show
use Rattle.liveviews.proofs.Accounts.{finish-fault, finish-valid, gave, gives-fault, push-step, stops-at}

-- where it begins
pub remains-fresh : (f : FeedParts) (input : List ℕ) → Shows f (fresh None) → Remains (account_of input) f input
remains-fresh f input shows = record { lines = []; state = fresh None; shows = shows; tells = refl }

-- a push was accepted
pub remains-step :
    (law : PushKeeps) (a : Account) (old new : FeedParts) (bytes later : List ℕ) (f : Fed)
    → ((t : FeedState) → Shows old t → Gives t bytes (Ok (seen f)))
    → ((t : FeedState) → Shows old t → Shows new (after_push t bytes (Ok (seen f)))) → Remains a old (bytes ++ later)
    → Remains a new (drop f.used bytes ++ later)
remains-step law a old new bytes later f answer after r =
    let o : Option Event = option_map event_seen f.event in
    let is : gives r.state bytes ≡ Ok (seen f) = gave r.state bytes f (answer r.state r.shows) in
    let next : FeedState = after_push r.state bytes (Ok (seen f)) in
    let rest : Account = account_in (transcript next (drop f.used bytes ++ later)) in
    record {
      lines = r.lines ++ given_lines o;
      state = next;
      shows = after r.state r.shows;
      tells =
          r.tells ∙ ap (after_lines r.lines) (push-step law r.state bytes later (seen f) is)
          ∙ ap (λ t. record { lines = t; end = rest.end }) (sym (append_assoc r.lines (given_lines o) rest.lines));
    }

-- a push was refused
pub remains-refused :
    (law : RefusalEnds) (a : Account) (old : FeedParts) (bytes later : List ℕ) (f : StreamFault) → 0 < length bytes
    → ((t : FeedState) → Shows old t → Gives t bytes (Err f)) → Remains a old (bytes ++ later)
    → IsFault a (show.Stream f)
remains-refused law a old bytes later f some answer r = elim (gives-fault r.state bytes f (answer r.state r.shows)) [
  | inl memory ↦ inl memory
  | inr stands ↦ inr
      (stops-at law a r.state r.lines bytes later f (gives r.state bytes) some r.tells refl stands).stands
]

-- the end of the input
at-end : (law : NothingLeft) (a : Account) (f : FeedParts) → (r : Remains a f []) → a.end ≡ last_in r.state
at-end law a f r =
    ap (λ x. x.end) r.tells ∙ ap (λ t. (account_in t).end) (law r.state)

pub remains-ends :
    (law : NothingLeft) (a : Account) (f : FeedParts) (c : StreamFault)
    → ((t : FeedState) → Shows f t → Finishes t (Err c)) → Remains a f [] → IsFault a (show.Stream c)
remains-ends law a f c answer r =
    let stands =
    stands_mapped (λ u. last_line r.state.condition)
    (finishing_when r.state.condition (stream_in (retained_in r.state))) c
    (finish-fault r.state c (answer r.state r.shows)) in
    inr (subst (λ (m : Reading (List ℕ)). FailsWith m c) (sym (at-end law a f r)) stands)

ended-valid : (input : List ℕ) (last : List ℕ) → EndsAlike → (account_of input).end ≡ Ok last
    → status_where (story_of input).end ≡ 0
ended-valid input last alike is =
    ap status_where (sym (alike input)) ∙ ap (λ (m : Reading (List ℕ)). status_where (mapped (λ l. tt) m)) is

pub remains-valid :
    (law : NothingLeft) (alike : EndsAlike) (f : FeedParts) (u : Unit {0})
    → ((t : FeedState) → Shows f t → Finishes t (Ok u)) → (input : List ℕ) → Remains (account_of input) f []
    → status_where (story_of input).end ≡ 0
remains-valid law alike f u answer input r =
    let valid = finish-valid r.state u (answer r.state r.shows) in
    let last : List ℕ = last_line r.state.condition in
    ended-valid input last alike
    (at-end law (account_of input) f r ∙ ap (λ m. mapped (λ u. last) m) valid.1)

-- a fault of the account is one of the stream
pub fault-stands : (alike : EndsAlike) (input : List ℕ) (e : ShowFault) → IsFault (account_of input) e
    → IsShown (Err e) input
fault-stands alike input (show.Stream f) (inl memory) = inl memory
fault-stands alike input (show.Stream f) (inr stands) =
    inr
    (subst (λ (m : Reading (Unit {0})). FailsWith m f) (alike input)
    (stands_mapped (λ last. tt) (account_of input).end f stands))
fault-stands alike input (show.Source f) h = tt
fault-stands alike input (show.Print f) h = tt

-- the result for the whole of a source
pub passes-shown :
    (alike : EndsAlike) (held : Option (List ℕ)) (f : FeedParts) (e : ShowFault) → OfSource held (HasPassed f (Err e))
    → OfSource held (IsShown (Err e))
passes-shown alike held f e source =
    record { input = source.input; read = source.read; so = fault-stands alike source.input e source.so }

pub closes-shown :
    (alike : EndsAlike) (held : Option (List ℕ)) (f : FeedParts) (u : Unit {0}) (r : Result (Unit {0}) ShowFault)
    → OfSource held (HasPassed f (Ok u))
    → OnOk r ((input : List ℕ) → Remains (account_of input) f [] → IsShown r input)
    → IfErr r (λ e. (a : Account) → Remains a f [] → IsFault a e) → OfSource held (IsShown r)
closes-shown alike held f u (Ok v) source valid faulty =
    record { input = source.input; read = source.read; so = valid source.input source.so }
closes-shown alike held f u (Err e) source valid faulty = record {
  input = source.input;
  read = source.read;
  so = fault-stands alike source.input e (faulty (account_of source.input) source.so);
}

-- piece by piece
pub passes-more :
    (old new : FeedParts) (piece : List ℕ)
    → ((a : Account) (later : List ℕ) → Remains a old (piece ++ later) → Remains a new later) → (bytes : List ℕ)
    → ((later : List ℕ) → Remains (account_of (bytes ++ later)) old later) → (later : List ℕ)
    → Remains (account_of ((bytes ++ piece) ++ later)) new later
passes-more old new piece goes bytes left later =
    goes (account_of ((bytes ++ piece) ++ later)) later
    (subst (λ (xs : List ℕ). Remains (account_of xs) old (piece ++ later)) (sym (append_assoc bytes piece later))
    (left (piece ++ later)))

pub passes-fault :
    (old new : FeedParts) (piece : List ℕ) (e : ShowFault)
    → ((a : Account) (later : List ℕ) → Remains a old (piece ++ later) → IsFault a e) → (bytes later : List ℕ)
    → ((later : List ℕ) → Remains (account_of (bytes ++ later)) old later)
    → HasPassed new (Err e) ((bytes ++ piece) ++ later)
passes-fault old new piece e stops bytes later left =
    stops (account_of ((bytes ++ piece) ++ later)) later
    (subst (λ (xs : List ℕ). Remains (account_of xs) old (piece ++ later)) (sym (append_assoc bytes piece later))
    (left (piece ++ later)))

pub passes-all :
    (f : FeedParts) (bytes : List ℕ) → ((later : List ℕ) → Remains (account_of (bytes ++ later)) f later)
    → Remains (account_of bytes) f []
passes-all f bytes left = subst (λ (xs : List ℕ). Remains (account_of xs) f []) (append-nil bytes) (left [])

-- a file that was shown whole
pub shows-file :
    (content : List ℕ → Option (List ℕ)) (path : List ℕ) (source : Option (List ℕ)) (u : Unit {0})
    → HoldsFile (content path) source → OfSource source (IsShown (Ok u)) → ShowsFile content
shows-file content path source u holds shown =
    record { path = path; input = shown.input; read = holds shown.input shown.read; valid = shown.so }

-- These are the bytes that a source holds.
pub some-source : (held : Option (List ℕ)) (P : List ℕ → Type 0) → ((input : List ℕ) → P input) → OfSource held P
some-source None P all = record { input = []; read = tt; so = all [] }
some-source (Some bytes) P all = record { input = bytes; read = refl; so = all bytes }

-- the rows of a batch
pub event-cells : (o : Option (List (Rose Entry))) (e : FeedEvent) → IsTypedEvent o e → HasCells e
event-cells None (feed_event.Batch columns rows body) typed = absurd typed
event-cells (Some fields) (feed_event.Batch columns rows body) typed = typed.1
event-cells o (feed_event.Schema s) typed = tt
event-cells o (feed_event.Dictionary id delta values) typed = tt
event-cells o feed_event.End typed = tt

pub typed-cells : (o : Option (List (Rose Entry))) (e : Option FeedEvent) → IfSome e (IsTypedEvent o)
    → IfSome e HasCells
typed-cells o None typed = tt
typed-cells o (Some e) typed = event-cells o e typed

pub row-within : (cs : List CheckedColumn) (n row : ℕ) → All (λ c. length c.cells ≡ n) cs → row < n
    → All (λ c. row < length c.cells) cs
row-within cs n row all below = λ k d within. omega (arith, below, all k d within)

pub rows-within : (cs : List CheckedColumn) (n rows : ℕ) → All (λ c. length c.cells ≡ n) cs → rows ≤ n
    → All (λ c. rows ≤ length c.cells) cs
rows-within cs n rows all most = λ k d within. omega (arith, most, all k d within)

pub fewer-within : (cs : List CheckedColumn) (rows row : ℕ) → All (λ c. rows ≤ length c.cells) cs → row < rows
    → All (λ c. row < length c.cells) cs
fewer-within cs rows row all below = λ k d within. omega (arith, below, all k d within)

pub ruleset rows_of = (rows-within, fewer-within)
