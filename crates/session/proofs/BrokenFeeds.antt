-- A feed that breaks in one run breaks in the other.
use Rattle.std.proofs.Common.{
  ◌≡◌,
  ◌⊎◌,
  inl,
  inr,
  ℕ,
  Bool,
  true,
  false,
  Bor,
  Option,
  None,
  Some,
  Result,
  Ok,
  Err,
  List,
  [],
  ◌∷◌,
  refl,
  ap,
  sym,
  subst,
  ◌∙◌,
}
use Rattle.std.specs.Prelude.{slice_get, slice_set}
use Rattle.std.proofs.lemmas.Option.{slice_get-map, same_Some, none-some}
use Rattle.std.specs.Option.{option_map}
use Rattle.values.specs.Reading.{FailsWith, Reading}
use Rattle.values.specs.declared.faults.StreamFault.{StreamFault}
use Rattle.stream_writer.specs.Sinks.{Sunk}
use Rattle.feed.specs.Events.{Event as Message, Given, batch, dictionary, ended, schema}
use Rattle.feed.specs.declared.condition.Condition.{Condition}
use Rattle.feed.specs.States.{FeedState, after_finish, after_push, condition_after, is_broken}
use Rattle.view_lang.specs.Config.{Config, FeedConfig, tables_of}
use Rattle.session.specs.Steps.{
  Channel,
  FinishBy,
  FinishTo,
  Past,
  PushBy,
  PushTo,
  Run,
  State,
  Steps,
  end_answer,
  moved,
  opened,
  place_in,
  push_answer,
  push_channel,
  start,
  with_feed,
}
use Rattle.session.specs.declared.calls.Fault.{Fault}
use Rattle.session.specs.declared.calls.Pushed.{Pushed}
use Rattle.session.specs.declared.calls.Reply.{Reply}
use Rattle.session.specs.declared.calls.Reply.TheVariants as reply
use Rattle.session.specs.declared.calls.Step.{Step}
use Rattle.session.specs.declared.calls.Step.TheVariants as step
use Rattle.session.specs.Cuts.{
  AsksEnd,
  AsksNow,
  Breaks,
  BreaksByPush,
  BreaksInBoth,
  Broke,
  BrokeByPush,
  EndedWell,
  EndsWell,
  IsDone,
  IsFault,
  transcript_at,
}
use Rattle.session.proofs.ReplayedFeeds.{get-other, get-set, same_by}
use Rattle.session.proofs.ReplayedRuns.{faults-are-told, faults-break, finish-is-told, push-faults-are-told}
use Rattle.session.proofs.FedBytes.{FeedLaws}

both-ways : (b : Bool) → b ≡ true → b ≡ false → ⊥
both-ways true x y = absurd (cc)
both-ways false x y = absurd (cc)

abbrev broken : Channel → Bool
broken c = is_broken c.fed.condition

-- A message, and a piece without one, break nothing.
message-keeps : (c : Condition) (e : Option Message) → is_broken c ≡ false → is_broken (condition_after c e) ≡ false
message-keeps c None whole = whole
message-keeps c (Some (schema fields)) whole = whole
message-keeps c (Some (dictionary id delta values)) whole = whole
message-keeps c (Some (batch columns rows body)) whole = whole
message-keeps c (Some ended) whole = refl

push-keeps : (s : FeedState) (piece : List ℕ) (g : Given) → is_broken s.condition ≡ false
    → is_broken (after_push s piece (Ok g)).condition ≡ false
unfolding after_push
push-keeps s piece g whole = message-keeps s.condition g.event whole

finish-keeps : (s : FeedState) (u : Unit {0}) → is_broken (after_finish s (Ok u)).condition ≡ false
unfolding after_finish
finish-keeps s u = refl

finish-breaks : (s : FeedState) (f : StreamFault) → is_broken (after_finish s (Err f)).condition ≡ true
unfolding after_finish
finish-breaks s f = refl

-- the effect of a step on feed k, which was in this state
record Moves (conf : Config) (st : Step) (re : Reply) (t : State) (k : ℕ) (c : Channel) : Type 0 where
  next : Channel
  there : slice_get t.channels k ≡ Some next
  stays : broken c ≡ true → broken next ≡ true
  fell : broken c ≡ false → broken next ≡ true
      → ((f : StreamFault) × BreaksByPush conf k f st re) ⊎
      (AsksNow conf k st × ((f : StreamFault) × Breaks conf k f st re))
  asked : AsksNow conf k st → EndsWell conf k st re ⊎ (broken next ≡ true)

module _ (conf : Config) (s t : State) (k : ℕ) (c : Channel) (here : slice_get s.channels k ≡ Some c) where
  -- a push elsewhere, or one that changes nothing
  push-past : (name piece : Bor (List ℕ)) (answer : Result Pushed Fault) → slice_get t.channels k ≡ Some c
      → Moves conf (step.Push name piece) (reply.Push answer) t k c
  push-past name piece answer there = record {
    next = c;
    there = there;
    stays = λ b. b;
    fell = λ whole b. absurd (both-ways (broken c) b whole);
    asked = λ h. absurd h;
  }

  pushed-with : (name piece : Bor (List ℕ)) (answer : Result Pushed Fault) (bytes : List ℕ)
      (gave : Result Given StreamFault)
      → place_in conf name.now ≡ k → broken c ≡ false
      → answer ≡ push_answer (tables_of conf) c.role s.past gave
      → slice_get t.channels k ≡ Some (push_channel c bytes gave)
      → Moves conf (step.Push name piece) (reply.Push answer) t k c
  pushed-with name piece answer bytes (Ok g) at whole answers there = record {
    next = push_channel c bytes (Ok g);
    there = there;
    stays = λ b. absurd (both-ways (broken c) b whole);
    fell = λ w b. absurd (both-ways (is_broken (after_push c.fed bytes (Ok g)).condition) b
        (push-keeps c.fed bytes g whole));
    asked = λ h. absurd h;
  }
  pushed-with name piece answer bytes (Err f) at whole answers there = record {
    next = push_channel c bytes (Err f);
    there = there;
    stays = λ b. absurd (both-ways (broken c) b whole);
    fell = λ w b. inl (f, (at, subst (λ a. IsFault a f) (sym answers) refl));
    asked = λ h. absurd h;
  }

  elsewhere : (j : ℕ) (past : Past) (next : Channel) → (k ≡ j → ⊥) → t ≡ moved s j past next
      → slice_get t.channels k ≡ Some c
  elsewhere j past next differ leads =
      ap (λ x. slice_get x.channels k) leads ∙ get-other s.channels j k next differ ∙ here

  at-k : (j : ℕ) (past : Past) (next : Channel) → k ≡ j → t ≡ moved s j past next → slice_get t.channels k ≡ Some next
  at-k j past next same leads =
      ap (λ x. slice_get x.channels k) leads ∙ ap (λ i. slice_get (slice_set s.channels i next) k) (sym same)
      ∙ get-set s.channels k next c here

  unmoved : t ≡ s → slice_get t.channels k ≡ Some c
  unmoved same = ap (λ x. slice_get x.channels k) same ∙ here

  push-moves : (name piece : Bor (List ℕ)) (answer : Result Pushed Fault)
      → PushTo (tables_of conf) s (place_in conf name.now)
      (slice_get s.channels (place_in conf name.now)) piece.now answer t
      → Moves conf (step.Push name piece) (reply.Push answer) t k c
  push-moves name piece answer happened = by_channel (slice_get s.channels (place_in conf name.now)) refl happened where
    by_piece : (d : Channel) → k ≡ place_in conf name.now → d ≡ c → (xs : List ℕ) (b : Bool) → broken d ≡ b →
        (past : Past)
        (next : Channel)
        → PushBy (tables_of conf) s.past d b xs answer past next → t ≡ moved s (place_in conf name.now) past next
        → Moves conf (step.Push name piece) (reply.Push answer) t k c
    by_piece d at same xs true is past next h leads =
        push-past name piece answer (at-k (place_in conf name.now) past next at leads ∙ ap (λ x. Some x) (h.2 ∙ same))
    by_piece d at same [] false is past next h leads =
        push-past name piece answer (at-k (place_in conf name.now) past next at leads ∙ ap (λ x. Some x) (h.2 ∙ same))
    by_piece d at same (b ∷ bs) false is past next h leads =
        pushed-with name piece answer (b ∷ bs) h.gave (sym at) (ap (λ x. broken x) (sym same) ∙ is)
        (h.answers ∙ ap (λ x. push_answer (tables_of conf) x.role s.past h.gave) same)
        (at-k (place_in conf name.now) past next at leads
        ∙ ap (λ x. Some x) (h.stream ∙ ap (λ x. push_channel x (b ∷ bs) h.gave) same))

    by_channel : (o : Option Channel) → slice_get s.channels (place_in conf name.now) ≡ o
        → PushTo (tables_of conf) s (place_in conf name.now) o piece.now answer t
        → Moves conf (step.Push name piece) (reply.Push answer) t k c
    by_channel None at h = push-past name piece answer (unmoved h.1)
    by_channel (Some d) at h = elim (same_by k (place_in conf name.now)) [
      | inl e ↦ by_piece d e.1
          (same_Some d c (sym at ∙ ap (λ i. slice_get s.channels i) (sym e.1) ∙ here))
          piece.now (broken d) refl h.past h.channel h.pushes h.leads
      | inr e ↦ push-past name piece answer (elsewhere (place_in conf name.now) h.past h.channel e.1 h.leads)
    ]

  -- a finish elsewhere
  finish-past : (name : Bor (List ℕ)) (answer : Result (Unit {0}) Fault) → (place_in conf name.now ≡ k → ⊥)
      → slice_get t.channels k ≡ Some c → Moves conf (step.Finish name) (reply.Finish answer) t k c
  finish-past name answer differ there = record {
    next = c;
    there = there;
    stays = λ b. b;
    fell = λ whole b. absurd (both-ways (broken c) b whole);
    asked = λ h. absurd (differ h);
  }

  finish-broken : (name : Bor (List ℕ)) (answer : Result (Unit {0}) Fault) → broken c ≡ true
      → slice_get t.channels k ≡ Some c → Moves conf (step.Finish name) (reply.Finish answer) t k c
  finish-broken name answer is there = record {
    next = c;
    there = there;
    stays = λ b. b;
    fell = λ whole b. absurd (both-ways (broken c) b whole);
    asked = λ h. inr is;
  }

  finished-with : (name : Bor (List ℕ)) (answer : Result (Unit {0}) Fault) (gave : Result (Unit {0}) StreamFault)
      → place_in conf name.now ≡ k → broken c ≡ false → answer ≡ end_answer gave
      → slice_get t.channels k ≡ Some (with_feed c (after_finish c.fed gave))
      → Moves conf (step.Finish name) (reply.Finish answer) t k c
  finished-with name answer (Ok u) at whole answers there = record {
    next = with_feed c (after_finish c.fed (Ok u));
    there = there;
    stays = λ b. absurd (both-ways (broken c) b whole);
    fell = λ w b. absurd (both-ways (is_broken (after_finish c.fed (Ok u)).condition) b (finish-keeps c.fed u));
    asked = λ h. inl (h, subst (λ a. IsDone a) (sym answers) tt);
  }
  finished-with name answer (Err f) at whole answers there = record {
    next = with_feed c (after_finish c.fed (Err f));
    there = there;
    stays = λ b. finish-breaks c.fed f;
    fell = λ w b. inr (at, (f, (at, subst (λ a. IsFault a f) (sym answers) refl)));
    asked = λ h. inr (finish-breaks c.fed f);
  }

  finish-moves : (name : Bor (List ℕ)) (answer : Result (Unit {0}) Fault)
      → FinishTo s (place_in conf name.now) (slice_get s.channels (place_in conf name.now)) answer t
      → Moves conf (step.Finish name) (reply.Finish answer) t k c
  finish-moves name answer happened = by_channel (slice_get s.channels (place_in conf name.now)) refl happened where
    by_broken : (d : Channel) → k ≡ place_in conf name.now → d ≡ c → (b : Bool) → broken d ≡ b → (next : Channel)
        → FinishBy d b answer next → t ≡ moved s (place_in conf name.now) s.past next
        → Moves conf (step.Finish name) (reply.Finish answer) t k c
    by_broken d at same true is next h leads =
        finish-broken name answer (ap (λ x. broken x) (sym same) ∙ is)
        (at-k (place_in conf name.now) s.past next at leads ∙ ap (λ x. Some x) (h.1 ∙ same))
    by_broken d at same false is next h leads =
        finished-with name answer h.gave (sym at) (ap (λ x. broken x) (sym same) ∙ is) h.answers
        (at-k (place_in conf name.now) s.past next at leads
        ∙ ap (λ x. Some x) (h.channel ∙ ap (λ x. with_feed x (after_finish x.fed h.gave)) same))

    by_channel : (o : Option Channel) → slice_get s.channels (place_in conf name.now) ≡ o
        → FinishTo s (place_in conf name.now) o answer t → Moves conf (step.Finish name) (reply.Finish answer) t k c
    by_channel None at h =
        finish-past name answer (λ e. none-some c (sym at ∙ ap (λ i. slice_get s.channels i) e ∙ here)) (unmoved h.1)
    by_channel (Some d) at h = elim (same_by k (place_in conf name.now)) [
      | inl e ↦ by_broken d e.1
          (same_Some d c (sym at ∙ ap (λ i. slice_get s.channels i) (sym e.1) ∙ here))
          (broken d) refl h.channel h.finishes
          h.leads
      | inr e ↦ finish-past name answer (λ x. e.1 (sym x))
          (elsewhere (place_in conf name.now) s.past h.channel e.1 h.leads)
    ]

  -- no other step concerns feeds
  other-moves : (st : Step) (re : Reply) → (AsksNow conf k st → ⊥) → t.channels ≡ s.channels → Moves conf st re t k c
  other-moves st re never same = record {
    next = c;
    there = ap (λ xs. slice_get xs k) same ∙ here;
    stays = λ b. b;
    fell = λ whole b. absurd (both-ways (broken c) b whole);
    asked = λ h. absurd (never h);
  }

  step-moves : (st : Step) (re : Reply) (sinks ls : List Sunk) → Steps conf s sinks st re t ls → Moves conf st re t k c
  unfolding Steps
  step-moves (step.Push name piece) (reply.Push answer) sinks ls h = push-moves name piece answer h.0
  step-moves (step.Finish name) (reply.Finish answer) sinks ls h = finish-moves name answer h.0
  step-moves step.Undo (reply.Undo answer) sinks ls h =
      other-moves step.Undo (reply.Undo answer) (λ e. e) (ap (λ x. x.channels) h.0.2)
  step-moves (step.Write name n) (reply.Write answer) sinks ls h =
      other-moves (step.Write name n) (reply.Write answer) (λ e. e) (ap (λ x. x.channels) h.1)
  step-moves _ _ sinks ls h = elim h [ ]

-- the effect of a run on feed k, which was in this state
record Leads (conf : Config) (steps : List Step) (replies : List Reply) (new : State) (k : ℕ)
    (c : Channel) : Type 0 where
  next : Channel
  there : slice_get new.channels k ≡ Some next
  stays : broken c ≡ true → broken next ≡ true
  fell : broken c ≡ false → broken next ≡ true
      → ((f : StreamFault) × BrokeByPush conf k f steps replies)
      ⊎ (AsksEnd conf k steps × ((f : StreamFault) × Broke conf k f steps replies))
  asked : AsksEnd conf k steps → EndedWell conf k steps replies ⊎ (broken next ≡ true)

leads : (conf : Config) (steps : List Step) (replies : List Reply) (sinks after : List Sunk) (s new : State) (k : ℕ)
    (c : Channel)
    → slice_get s.channels k ≡ Some c → Run conf s sinks steps replies new after → Leads conf steps replies new k c
unfolding Broke BrokeByPush EndedWell AsksEnd Run
leads conf [] [] sinks after s new k c here run = record {
  next = c;
  there = ap (λ x. slice_get x.channels k) run.0 ∙ here;
  stays = λ b. b;
  fell = λ whole b. absurd (both-ways (broken c) b whole);
  asked = λ h. absurd h;
}
leads conf (st ∷ sts) (re ∷ res) sinks after s new k c here run =
    let m : Moves conf st re run.0 k c = step-moves conf s run.0 k c here st re sinks run.1 run.2 in
    let l : Leads conf sts res new k m.next = leads conf sts res run.1 after run.0 new k m.next m.there run.3 in
    record {
      next = l.next;
      there = l.there;
      stays = λ b. l.stays (m.stays b);
      fell = λ whole b. by_next m l (broken m.next) refl whole b;
      asked = λ h. by_time m l h;
    } where
      by_next : (m : Moves conf st re run.0 k c) (l : Leads conf sts res new k m.next) (b : Bool) → broken m.next ≡ b
          → broken c ≡ false → broken l.next ≡ true
          → ((f : StreamFault) × (BreaksByPush conf k f st re ⊎ BrokeByPush conf k f sts res))
          ⊎ ((AsksNow conf k st ⊎ AsksEnd conf k sts)
          × ((f : StreamFault) × (Breaks conf k f st re ⊎ Broke conf k f sts res)))
      by_next m l true is whole end = elim (m.fell whole is) [
        | inl h ↦ inl (h.0, inl h.1)
        | inr h ↦ inr (inl h.0, (h.1.0, inl h.1.1))
      ]
      by_next m l false is whole end = elim (l.fell is end) [
        | inl h ↦ inl (h.0, inr h.1)
        | inr h ↦ inr (inr h.0, (h.1.0, inr h.1.1))
      ]

      by_time : (m : Moves conf st re run.0 k c) (l : Leads conf sts res new k m.next)
          → AsksNow conf k st ⊎ AsksEnd conf k sts
          → (EndsWell conf k st re ⊎ EndedWell conf k sts res) ⊎ (broken l.next ≡ true)
      by_time m l (inl h) = elim (m.asked h) [
        | inl well ↦ inl (inl well)
        | inr is ↦ inr (l.stays is)
      ]
      by_time m l (inr h) = elim (l.asked h) [
        | inl well ↦ inl (inr well)
        | inr is ↦ inr is
      ]
leads conf [] (re ∷ res) sinks after s new k c here run = elim run [ ]
leads conf (st ∷ sts) [] sinks after s new k c here run = elim run [ ]

first-channel : (conf : Config) (k : ℕ) (plan : FeedConfig) → slice_get conf.feeds k ≡ Some plan
    → slice_get (start conf).channels k ≡ Some (opened (tables_of conf) plan)
first-channel conf k plan is =
    slice_get-map (opened (tables_of conf)) conf.feeds k ∙ ap (λ o. option_map (opened (tables_of conf)) o) is

pub breaks-in-both : FeedLaws → BreaksInBoth
breaks-in-both laws conf streams steps others replies answers sinks after sinks_too after_too new other run run_too k
    plan c
    d is there there_too whole asks broke =
    by_ending (transcript_at conf streams k).end refl (l.fell refl (ap (λ x. broken x) (sym same) ∙ broke)) where
      l : Leads conf steps replies new k (opened (tables_of conf) plan)
      l = leads conf steps replies sinks after (start conf) new k (opened (tables_of conf) plan)
          (first-channel conf k plan is)
          run.runs

      m : Leads conf others answers other k (opened (tables_of conf) plan)
      m = leads conf others answers sinks_too after_too (start conf) other k (opened (tables_of conf) plan)
          (first-channel conf k plan is) run_too.runs

      same : c ≡ l.next
      same = same_Some c l.next (sym there ∙ l.there)

      same_too : m.next ≡ d
      same_too = same_Some m.next d (sym m.there ∙ there_too)

      by_end : (f : StreamFault) → Broke conf k f steps replies
          → EndedWell conf k others answers ⊎ (broken m.next ≡ true) → broken d ≡ true
      by_end f h (inl well) =
          absurd
          (finish-is-told laws conf streams others answers sinks_too other after_too run_too k f well
          (faults-are-told laws conf streams steps replies sinks new after run k f h))
      by_end f h (inr fallen) = ap (λ x. broken x) (sym same_too) ∙ fallen

      by_ending : (e : Reading FeedState) → (transcript_at conf streams k).end ≡ e
          → ((f : StreamFault) × BrokeByPush conf k f steps replies)
          ⊎ (AsksEnd conf k steps × ((f : StreamFault) × Broke conf k f steps replies))
          → broken d ≡ true
      by_ending (Err fs) e h =
          faults-break laws conf streams others answers sinks_too other after_too run_too k d fs there_too e whole
      by_ending (Ok st) e (inl h) =
          absurd
          (subst (λ x. FailsWith x h.0) e
          (push-faults-are-told laws conf streams steps replies sinks new after run k h.0 h.1))
      by_ending (Ok st) e (inr h) = by_end h.1.0 h.1.1 (m.asked (asks h.0))
