-- The outcome of a push, by what the feed gave.
use Rattle.std.proofs.Common.{
  ◌≡◌,
  ℕ,
  zero,
  suc,
  ◌<◌,
  Bool,
  true,
  false,
  Option,
  None,
  Some,
  Result,
  Ok,
  Err,
  IfSome,
  IsSome,
  List,
  [],
  ◌∷◌,
  length,
  refl,
  ap,
  sym,
  subst,
  ◌∙◌,
  arith,
}
use Rattle.std.specs.Prelude.{◌==◌}
use Rattle.std.specs.Option.{option_map}
use Rattle.values.specs.Rose.{Rose}
use Rattle.values.specs.declared.causes.Cause.TheVariants as cause
use Rattle.values.specs.declared.faults.StreamFault.{StreamFault}
use Rattle.values.specs.declared.faults.StreamFault.TheVariants as fault
use Rattle.values.specs.StreamCauses.{cause_of as cause_named}
use Rattle.schema_meta.specs.Entry.{Entry}
use Rattle.schema_meta.specs.LogicalLaw.{LogicalTrees, NarrowHolds, NarrowWeighs}
use Rattle.feed.specs.Calls.{IsTyped, MayAnswer, MayLackFor, ShowsAfter, StillShows, WillTake}
use Rattle.feed.specs.Events.{Given, given}
use Rattle.feed.specs.Shown.{FeedParts, IsTypedEvent, Leads, Shows, event_seen, seen}
use Rattle.feed.specs.States.{FeedState, Finishes, Gives, after_finish, after_push, is_broken, retained_in}
use Rattle.feed.specs.declared.event.Fed.{Fed}
use Rattle.feed.specs.declared.event.FeedEvent.{FeedEvent}
use Rattle.feed.specs.declared.event.FeedEvent.TheVariants as feed_event
use Rattle.messages.specs.Stream.{Stream}
use Rattle.view_lang.specs.Config.{Table}
use Rattle.view_lang.specs.Edits.{Edit}
use Rattle.view_lang.specs.UnfitCauses.{named}
use Rattle.view_lang.specs.ViewColumns.{feed_columns}
use Rattle.view_lang.specs.declared.config.Role.{Role}
use Rattle.view_lang.specs.declared.unfit.Unfit.{Unfit}
use Rattle.row_keys.specs.declared.faults.EditFault.{EditFault}
use Rattle.row_keys.specs.declared.faults.EditFault.TheVariants as edit_fault
use Rattle.session.specs.Changes.{Ended, IsBatchEvent, Pushed, Takes, past_by, unfit_by}
use Rattle.session.specs.Refusals.{refused}
use Rattle.upkeep.specs.Stores.{Rows}
use Rattle.session.specs.Shows.{ShowsChannel, ShowsPast}
use Rattle.session.specs.Steps.{
  Channel,
  Ends,
  FinishBy,
  Gets,
  Past,
  PushBy,
  edit_in,
  end_answer,
  kind_of,
  message_answer,
  message_past,
  push_answer,
  push_channel,
  push_past,
  pushed,
  with_feed,
}
use Rattle.session.specs.declared.calls.Event.{Event}
use Rattle.session.specs.declared.calls.Fault.{Fault}
use Rattle.session.specs.declared.calls.Pushed.{Pushed as Came}
use Rattle.session.specs.declared.link.Link.{Link}
use Rattle.session.specs.declared.undo.UndoRecord.{UndoRecord}
use Rattle.session.proofs.Typed.{batch_alike}

-- a piece that isn't empty is pushed to a feed that isn't broken
gets_by :
    (tables : List Table) (past after : Past) (c d : Channel) (b : Bool) (piece : List ℕ) (answer : Result Came Fault)
    → b ≡ false → 0 < length piece
    → Gets tables past c piece answer after d → PushBy tables past c b piece answer after d
gets_by tables past after c d true piece answer goes some gets = absurd (cc)
gets_by tables past after c d false [] answer goes some gets = absurd (omega (arith, some))
gets_by tables past after c d false (x ∷ xs) answer goes some gets = gets

pub some_bytes : (n : ℕ) (b : Bool) → b ≡ (n == 0) → b ≡ false → 0 < n
some_bytes zero b is not = absurd (cc)
some_bytes (suc n) b is not = omega arith

declared_after : (s : FeedState) (piece : List ℕ) (gave : Result Given StreamFault)
    → (after_push s piece gave).declared ≡ s.declared
unfolding after_push
declared_after s piece (Ok g) = refl
declared_after s piece (Err f) = refl

-- what it gives decides the rest
pub push_shown :
    (tables : List Table) (past after : Past) (c : Channel) (l : Link) (piece : List ℕ) (gave : Result Given
    StreamFault)
    (f : FeedParts)
    (answer : Result Came Fault) (slots : Rows) (records : List UndoRecord) → is_broken c.fed.condition ≡ false
    → 0 < length piece
    → Gives c.fed piece gave → Shows f (after_push c.fed piece gave) → answer ≡ push_answer tables c.role past gave
    → after ≡ push_past tables c.role past gave → ShowsPast tables slots records after → ShowsChannel tables l c
    → Pushed tables past c piece answer (record { role = l.role; feed = f }) slots records
push_shown tables past after c l piece gave f answer slots records goes some may feed answers leads shows shown =
    record {
      after = after;
      channel = push_channel c piece gave;
      pushes =
          gets_by tables past after c (push_channel c piece gave) (is_broken c.fed.condition) piece answer goes some
          (record { gave = gave; may = may; answers = answers; edits = leads; stream = refl });
      shows = shows;
      feed = record {
        role = shown.role;
        there = shown.there;
        feed = feed;
        declared = declared_after c.fed piece gave ∙
            shown.declared;
      };
    }

-- a fault of the stream, or want of memory
pub fault_shown :
    (tables : List Table) (past : Past) (c : Channel) (l : Link) (piece : List ℕ) (e : StreamFault) (f : FeedParts)
    (answer : Result Came Fault)
    (slots : Rows) (records : List UndoRecord) → is_broken c.fed.condition ≡ false → 0 < length piece
    → answer ≡ Err (refused (cause_named e)) → MayAnswer l.feed piece (Err e) → ShowsAfter l.feed piece (Err e) f
    → ShowsPast tables slots records past
    → ShowsChannel tables l c → Pushed tables past c piece answer (record { role = l.role; feed = f }) slots records
fault_shown tables past c l piece e f answer slots records goes some answers may after shows shown =
    push_shown tables past past c l piece (Err e) f answer slots records goes some (may c.fed shown.feed)
    (after c.fed shown.feed) answers refl shows
    shown

-- a piece without a message
pub part_shown :
    (tables : List Table) (past : Past) (c : Channel) (l : Link) (piece : List ℕ) (fed : Fed) (f g : FeedParts)
    (slots : Rows)
    (records : List UndoRecord) → is_broken c.fed.condition ≡ false → 0 < length piece → fed.event ≡ None
    → MayAnswer l.feed piece (Ok (seen fed))
    → WillTake l.feed piece (seen fed) f → ((s : FeedState) → Leads f s → Shows g s) → ShowsPast tables slots records
    past
    → ShowsChannel tables l c
    → Pushed tables past c piece (Ok (pushed fed.used None)) (record { role = l.role; feed = g }) slots records
part_shown tables past c l piece fed f g slots records goes some none may will commit shows shown =
    let is : seen fed ≡ given fed.used None =
    ap (λ (o : Option FeedEvent). given fed.used (option_map event_seen o)) none in
    push_shown tables past past c l piece (Ok (seen fed)) g (Ok (pushed fed.used None)) slots records goes some
    (may c.fed shown.feed)
    (commit (after_push c.fed piece (Ok (seen fed))) (will c.fed shown.feed))
    (ap (λ (x : Given). push_answer tables c.role past (Ok x)) (sym is))
    (ap (λ (x : Given). push_past tables c.role past (Ok x)) (sym is)) shows shown

message_ok :
    (tables : List Table) (past : Past) (used : ℕ) (is kind : Event) (o : Option Edit) → unfit_by tables past o ≡ None
    → kind ≡ is
    → (Ok (pushed used (Some kind)) ≡ message_answer tables past used is o)
    × (past_by past o (Ok kind) ≡ message_past tables past o)
message_ok tables past used is kind None fits same = (ap (λ k. Ok (pushed used (Some k))) same, refl)
message_ok tables past used is kind (Some e) fits same = rw fits (ap (λ k. Ok (pushed used (Some k))) same, refl)

message_unfit :
    (tables : List Table) (past : Past) (used : ℕ) (is : Event) (o : Option Edit) (u : Unfit) → unfit_by tables past o
    ≡ Some u
    → (Err (record { cause = named u; used = used }) ≡ message_answer tables past used is o)
    × (past_by past o (Err (edit_fault.Unfit u)) ≡ message_past tables past o)
message_unfit tables past used is None u stands = absurd (cc)
message_unfit tables past used is (Some e) u stands = rw stands (refl, refl)

past_kept : (past : Past) (o : Option Edit) (f : EditFault) → past_by past o (Err f) ≡ past
past_kept past None f = refl
past_kept past (Some e) f = refl

-- A message is complete, and its edit is applied or refused.
module _ (tables : List Table) (past : Past) (c : Channel) (l : Link) (piece : List ℕ) (fed : Fed) (event : FeedEvent)
    (old slots : Rows) (before records : List UndoRecord) where
  abbrev this : Option Edit
  this = edit_in l.role (event_seen event)

  gave_this : fed.event ≡ Some event → seen fed ≡ given fed.used (Some (event_seen event))
  gave_this e = ap (λ (o : Option FeedEvent). given fed.used (option_map event_seen o)) e

  answered :
      (answer : Result Came Fault) → fed.event ≡ Some event → l.role ≡ c.role
      → answer ≡ message_answer tables past fed.used (kind_of (event_seen event)) this
      → answer ≡ push_answer tables c.role past (Ok (seen fed))
  answered answer e role h =
      h ∙ ap (λ (x : Given). push_answer tables l.role past (Ok x)) (sym (gave_this e))
      ∙ ap (λ (r : Role). push_answer tables r past (Ok (seen fed))) role

  led : (after : Past) → fed.event ≡ Some event → l.role ≡ c.role → after ≡ message_past tables past this
      → after ≡ push_past tables c.role past (Ok (seen fed))
  led after e role h =
      h ∙ ap (λ (x : Given). push_past tables l.role past (Ok x)) (sym (gave_this e))
      ∙ ap (λ (r : Role). push_past tables r past (Ok (seen fed))) role

  pub message_shown :
      (kind : Event) (f g : FeedParts) → is_broken c.fed.condition ≡ false → 0 < length piece → fed.event ≡ Some event
      → MayAnswer l.feed piece (Ok (seen fed)) → WillTake l.feed piece (seen fed) f
      → ((s : FeedState) → Leads f s → Shows g s)
      → Takes tables l.role (event_seen event) old before slots records (Ok kind) → ShowsPast tables old before past
      → ShowsChannel tables l c
      → Pushed tables past c piece (Ok (pushed fed.used (Some kind))) (record { role = l.role; feed = g }) slots records
  message_shown kind f g goes some is may will commit takes shows shown =
      let t = takes past shows in
      let made = message_ok tables past fed.used (kind_of (event_seen event)) kind this t.0.0 t.0.1 in
      push_shown tables past (past_by past this (Ok kind)) c l piece (Ok (seen fed)) g (Ok (pushed fed.used (Some
      kind)))
      slots records goes some
      (may c.fed shown.feed) (commit (after_push c.fed piece (Ok (seen fed))) (will c.fed shown.feed))
      (answered (Ok (pushed fed.used (Some kind))) is shown.role made.0)
      (led (past_by past this (Ok kind)) is shown.role made.1) t.1 shown

  pub unfit_shown :
      (u : Unfit) (answer : Result Came Fault) (f g : FeedParts) → is_broken c.fed.condition ≡ false → 0 < length piece
      → fed.event ≡ Some event
      → MayAnswer l.feed piece (Ok (seen fed)) → WillTake l.feed piece (seen fed) f
      → ((s : FeedState) → Leads f s → Shows g s)
      → Takes tables l.role (event_seen event) old before slots records (Err (edit_fault.Unfit u))
      → answer ≡ Err (record { cause = named u; used = fed.used }) → ShowsPast tables old before past
      → ShowsChannel tables l c
      → Pushed tables past c piece answer (record { role = l.role; feed = g }) slots records
  unfit_shown u answer f g goes some is may will commit takes saturated shows shown =
      let t = takes past shows in
      let made = message_unfit tables past fed.used (kind_of (event_seen event)) this u t.0 in
      push_shown tables past (past_by past this (Err (edit_fault.Unfit u))) c l piece (Ok (seen fed)) g answer slots
      records goes some
      (may c.fed shown.feed) (commit (after_push c.fed piece (Ok (seen fed))) (will c.fed shown.feed))
      (answered answer is shown.role (saturated ∙ made.0))
      (led (past_by past this (Err (edit_fault.Unfit u))) is shown.role made.1) t.1 shown

  pub memory_shown :
      (answer : Result Came Fault) (f : FeedParts) → is_broken c.fed.condition ≡ false → 0 < length piece
      → fed.event ≡ Some event
      → MayLackFor l.feed piece fed → StillShows l.feed f
      → Takes tables l.role (event_seen event) old before slots records (Err edit_fault.Memory)
      → answer ≡ Err (refused cause.Memory) → ShowsPast tables old before past → ShowsChannel tables l c
      → Pushed tables past c piece answer (record { role = l.role; feed = f }) slots records
  unfolding after_push
  memory_shown answer f goes some is lack still takes saturated shows shown =
      let t = takes past shows in
      let same : ShowsPast tables slots records past =
      subst (λ (p : Past). ShowsPast tables slots records p) (past_kept past this edit_fault.Memory) t.1 in
      let may : Gives c.fed piece (Err fault.Memory) =
      lack (subst (λ (o : Option FeedEvent). IsSome o) (sym is) refl) c.fed shown.feed in
      push_shown tables past past c l piece (Err fault.Memory) f answer slots records goes some may
      (still c.fed shown.feed) saturated refl same shown

-- The columns of a batch are those that were declared.
module _ (trees : LogicalTrees) (holds : NarrowHolds) (weighs : NarrowWeighs) where
  batch_typed :
      (tables : List Table) (role : Role) (s : FeedState) (known : Option (List (Rose Entry))) (event : FeedEvent)
      → s.declared ≡ Some (feed_columns tables role) → known ≡ (retained_in s).known.schema → IsTypedEvent known event
      → IsBatchEvent tables role event
  batch_typed tables role s known (feed_event.Schema x) declared is typed = tt
  batch_typed tables role s known (feed_event.Dictionary id delta values) declared is typed = tt
  batch_typed tables role s known feed_event.End declared is typed = tt
  batch_typed tables role s None (feed_event.Batch columns rows body) declared is typed = absurd typed
  batch_typed tables role s (Some fields) (feed_event.Batch columns rows body) declared is typed = record {
    alike = batch_alike trees holds weighs s (feed_columns tables role) fields columns.items rows declared (sym is)
        typed;
    lengths = typed.1;
  }

  pub event_typed :
      (tables : List Table) (c : Channel) (l : Link) (piece : List ℕ) (fed : Fed) (event : FeedEvent) (f : FeedParts)
      → fed.event ≡ Some event
      → WillTake l.feed piece (seen fed) f → IsTyped f.framing.prepared.known.schema fed → ShowsChannel tables l c
      → IsBatchEvent tables l.role event
  event_typed tables c l piece fed event f is will typed shown =
      let s : FeedState = after_push c.fed piece (Ok (seen fed)) in
      let leads : Leads f s = will c.fed shown.feed in
      let known : f.framing.prepared.known.schema ≡ (retained_in s).known.schema =
      ap (λ (x : Stream). x.known.schema) leads.stream in
      let declared : s.declared ≡ Some (feed_columns tables c.role) =
      declared_after c.fed piece (Ok (seen fed)) ∙ shown.declared in
      let here : IsTypedEvent f.framing.prepared.known.schema event =
      subst (λ (o : Option FeedEvent). IfSome o (IsTypedEvent f.framing.prepared.known.schema)) is typed in
      subst (λ (r : Role). IsBatchEvent tables r event) (sym shown.role)
      (batch_typed tables c.role s f.framing.prepared.known.schema event declared known here)

-- the end of an input
ends_by :
    (c d : Channel) (b : Bool) (answer : Result (Unit {0}) Fault) → b ≡ false → Ends c answer d → FinishBy c b answer d
ends_by c d true answer goes ends = absurd (cc)
ends_by c d false answer goes ends = ends

declared_at_end : (s : FeedState) (gave : Result (Unit {0}) StreamFault) → (after_finish s gave).declared ≡ s.declared
unfolding after_finish
declared_at_end s (Ok u) = refl
declared_at_end s (Err f) = refl

pub end_shown :
    (tables : List Table) (c : Channel) (l : Link) (gave : Result (Unit {0}) StreamFault) (f : FeedParts)
    (answer : Result (Unit {0}) Fault)
    → is_broken c.fed.condition ≡ false → answer ≡ end_answer gave → Finishes c.fed gave
    → Shows f (after_finish c.fed gave)
    → ShowsChannel tables l c → Ended tables c answer (record { role = l.role; feed = f })
end_shown tables c l gave f answer goes answers may feed shown =
    let d : Channel = with_feed c (after_finish c.fed gave) in
    record {
      channel = d;
      finishes =
          ends_by c d (is_broken c.fed.condition) answer goes
          (record { gave = gave; may = may; answers = answers; channel = refl });
      feed = record {
        role = shown.role;
        there = shown.there;
        feed = feed;
        declared = declared_at_end c.fed gave ∙
            shown.declared;
      };
    }
