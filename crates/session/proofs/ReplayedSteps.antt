-- Each step of a run leads where its replay does.
use Rattle.std.proofs.Common.{◌≡◌, ◌⊎◌, inl, inr, ℕ, zero, suc, ◌<◌, Bool, true, false, Bor, Option, None, Some, Result, Ok, Err, List, [], ◌∷◌, ◌++◌, length, take, drop, refl, ap, sym, subst, ◌∙◌}
use Rattle.std.specs.Prelude.{◌==◌, slice_get, slice_set}
use Rattle.std.proofs.lemmas.Option.{same_Some}
use Rattle.std.proofs.Math.Seq.{drop-append_seam, take-length}
use Rattle.std.specs.Io.KnownBytes.{Appends}
use Rattle.values.specs.Reading.{IsAmong, Faults, Reading, FailsWith}
use Rattle.values.specs.StreamCauses.{cause_of as cause_named}
use Rattle.values.specs.declared.causes.Cause.TheVariants as cause
use Rattle.values.specs.declared.faults.StreamFault.{StreamFault}
use Rattle.stream_writer.specs.Sinks.{Sunk, Writes}
use Rattle.feed.specs.Events.{Event as Message, Given, given}
use Rattle.feed.specs.Transcript.{transcript}
use Rattle.feed.specs.States.{FeedState, Finishes, Gives, after_finish, after_push, gives, is_broken}
use Rattle.view_lang.specs.Config.{Config, View, tables_of}
use Rattle.view_lang.specs.World.{world}
use Rattle.session.specs.Refusals.{refused}
use Rattle.session.specs.Steps.{Channel, Ends, FinishBy, FinishTo, Gets, Past, PushBy, PushTo, State, Steps, UndoBy, UndoTo, WriteAnswers, WriteTo, WritesView, edit_in, end_answer, kind_of, message_answer, moved, push_answer, push_past, pushed, stream_of, undone, view_in, with_feed}
use Rattle.session.specs.declared.calls.Fault.{Fault}
use Rattle.session.specs.declared.calls.Pushed.{Pushed}
use Rattle.session.specs.declared.calls.Reply.{Reply}
use Rattle.session.specs.declared.calls.Reply.TheVariants as reply
use Rattle.session.specs.declared.calls.Step.{Step}
use Rattle.session.specs.declared.calls.Step.TheVariants as step
use Rattle.session.specs.declared.calls.ViewFault.{ViewFault}
use Rattle.session.specs.declared.calls.ViewFault.TheVariants as view_fault
use Rattle.session.specs.Cuts.{BeginsWith, IfAnswered, IsAmple, IsAmpleAnswer, IsDone, IsFault, IsOther, IsWrittenWhole, Left, Mark, MayBreak, OffersNow, Took, completes, mark_if, next_message, of_feed, past_with, put_at, replay, role_at, used_of, written_by}
use Rattle.session.proofs.FedBytes.{FeedLaws, tells-broken, tells-fault, tells-none, tells-partial, tells-whole}
use Rattle.session.proofs.ReplayedFeeds.{facts, get-set, get-other, set-same, same_by, put_at-same, put_at-other, appends-more, place, after_given, Heir, Stand, Follows, follows-set, follows-same, Goes, some-length, none-there, true-false, broken-stream, unknown-stream, same-stream, fault-heard, no-fault, faulty, breaks, from-heir, finish-fault, finish-heir, finish-well, finish-stand, put_at-nothing, event-completes, replay-feed, replay-undo, replay-write, undo-nothing, event-heard, going, stuck, over}

module _ (laws : FeedLaws) (conf : Config) (ends : ℕ → Reading FeedState) (messages : ℕ → List Message)
    (streams bytes : ℕ → List ℕ) (before sinks : List Sunk) (s t : State) (ls : List Sunk)
    (follows : Follows (role_at conf) ends messages streams s.channels) (took : Took bytes before sinks) where
  left_with : Past → Left
  left_with past = record { past = past; bytes = bytes }

  -- a push that changes nothing
  push-stays : (name piece : Bor (List ℕ)) (answer : Result Pushed Fault) → completes answer ≡ false
      → used_of answer ≡ 0 → ((f : StreamFault) → IsFault answer f → ⊥) → t ≡ s → ls ≡ sinks
      → Goes conf ends (step.Push name piece) (reply.Push answer) messages streams bytes before s t ls
  push-stays name piece answer nothing none sound same there = record {
    messages_left = messages;
    bytes_left = bytes;
    same = λ marks. ap (λ b. replay conf (mark_if b (place conf name) marks) messages
        (record { past = s.past; bytes = bytes })) nothing
        ∙ ap (λ x. replay conf marks messages (record { past = x.past; bytes = bytes })) (sym same);
    now = λ j f h. absurd (sound f h.1);
    well = λ j h f m. h;
    pushes = λ j f h. absurd (sound f h.1);
    follows = subst (λ x. Follows (role_at conf) ends messages
        (put_at (place conf name) (drop (used_of answer) (streams (place conf name))) streams) x.channels) (sym same)
        (follows-same (role_at conf) ends messages streams
        (put_at (place conf name) (drop (used_of answer) (streams (place conf name))) streams) s.channels
        (put_at-nothing (place conf name) (used_of answer) streams none) follows);
    took = subst (λ l. Took bytes before l) (sym there) took;
  }

  module _ (name piece : Bor (List ℕ)) (c : Channel) (b : ℕ) (bs : List ℕ) (answer : Result Pushed Fault)
      (there : slice_get s.channels (place conf name) ≡ Some c) (whole : is_broken c.fed.condition ≡ false)
      (still : ls ≡ sinks) where
    -- the feed isn't broken
    heir : (f : StreamFault) → MayBreak (transcript c.fed (streams (place conf name))).end f → MayBreak
        (ends (place conf name)) f
    heir = by_heir (follows (place conf name) c there).2 where
      by_heir : Heir (ends (place conf name)) c.fed (streams (place conf name)) → (f : StreamFault) → MayBreak
          (transcript c.fed (streams (place conf name))).end f → MayBreak (ends (place conf name)) f
      by_heir (inl h) = h
      by_heir (inr broken) = absurd (true-false (is_broken c.fed.condition) broken whole)

    stand-on : (fed : FeedState) (left : List ℕ) → BeginsWith (b ∷ bs) (streams (place conf name)) →
        (transcript c.fed (streams (place conf name))).end ≡ (transcript fed left).end → Stand
        (ends (place conf name)) fed left
    stand-on fed left begins same = by_stand (follows (place conf name) c there).3 where
      by_stand : Stand (ends (place conf name)) c.fed (streams (place conf name)) → Stand
          (ends (place conf name)) fed left
      by_stand (going e) = going (sym same ∙ e)
      by_stand (stuck broken some) = absurd (true-false (is_broken c.fed.condition) broken whole)
      by_stand (over d e none g) = absurd (none-there b (bs ++ begins.0) (sym none ∙ begins.1))

    -- a fault was found
    push-faulty : (f : StreamFault) → IsOther (cause_named f) → Gives c.fed (b ∷ bs) (Err f) → BeginsWith (b ∷ bs)
        (streams (place conf name))
        → answer ≡ Err (refused (cause_named f)) → t ≡ after_given conf s (place conf name) c (b ∷ bs) (Err f)
        → Goes conf ends (step.Push name piece) (reply.Push answer) messages streams bytes before s t ls
    push-faulty f ok may begins answers state = by_gives (gives c.fed (b ∷ bs)) refl
        (faulty c.fed (b ∷ bs) f ok may) where
          none_left : (fs : Faults) → gives c.fed (b ∷ bs) ≡ Err fs → messages (place conf name) ≡ []
          none_left fs at =
              (follows (place conf name) c there).1 ∙ ap (λ ys. (transcript c.fed ys).events) begins.1
              ∙ ap (λ x. x.events)
              (tells-fault laws c.fed b bs begins.0 fs at)

          some_left : 0 < length (put_at (place conf name) (drop (used_of answer) (streams (place conf name))) streams
              (place conf name))
          some_left =
              subst (λ ys. 0 < length ys)
              (sym (put_at-same (place conf name) (drop (used_of answer) (streams (place conf name))) streams ∙ ap
              (λ a. drop (used_of a) (streams (place conf name))) answers ∙ begins.1))
              (some-length b (bs ++ begins.0))

          stands-told : (fs : Faults) → gives c.fed (b ∷ bs) ≡ Err fs → IsAmong fs f → FailsWith (ends (place conf name)) f
          stands-told fs at among = by_stand (follows (place conf name) c there).3 where
            by_stand : Stand (ends (place conf name)) c.fed (streams (place conf name))
                → FailsWith (ends (place conf name)) f
            by_stand (going e) =
                subst (λ x. FailsWith x f)
                (sym (ap (λ ys. (transcript c.fed ys).end) begins.1 ∙ ap (λ x. x.end)
                (tells-fault laws c.fed b bs begins.0 fs at)) ∙ e) among
            by_stand (stuck broken some) = absurd (true-false (is_broken c.fed.condition) broken whole)
            by_stand (over d e none g) = absurd (none-there b (bs ++ begins.0) (sym none ∙ begins.1))

          by_gives : (r : Reading Given) → gives c.fed (b ∷ bs) ≡ r → FailsWith r f → Goes conf ends (step.Push name piece)
              (reply.Push answer) messages streams bytes before s t ls
          by_gives (Ok g) at stands = absurd stands
          by_gives (Err fs) at stands = record {
            messages_left = messages;
            bytes_left = bytes;
            same = λ marks. ap (λ a. replay conf (mark_if (completes a) (place conf name) marks) messages
                (record { past = s.past; bytes = bytes })) answers
                ∙ ap (λ x. replay conf (mark_if x (place conf name) marks) messages
                (record { past = s.past; bytes = bytes })) (facts f).0
                ∙ ap (λ x. replay conf marks messages (record { past = x.past; bytes = bytes })) (sym state);
            now = λ j g h.
                let same : f ≡ g = same-stream f g (subst (λ a. IsFault a g) answers h.1) in
                let ending : (transcript c.fed (streams (place conf name))).end ≡ Err fs = ap
                (λ ys. (transcript c.fed ys).end) begins.1 ∙ ap (λ x. x.end)
                (tells-fault laws c.fed b bs begins.0 fs at) in
                subst (λ i. MayBreak (ends i) g) h.0 (subst (λ x. MayBreak (ends (place conf name)) x) same
                (heir f (subst (λ x. MayBreak x f) (sym ending) stands)));
            well = λ j h f m. h;
            pushes = λ j g h. subst (λ i. FailsWith (ends i) g) h.0
                (subst (λ x. FailsWith (ends (place conf name)) x) (same-stream f g (subst (λ a. IsFault a g) answers h.1))
                (stands-told fs at stands));
            follows = subst (λ x. Follows (role_at conf) ends messages
                (put_at (place conf name) (drop (used_of answer) (streams (place conf name))) streams) x.channels)
                (sym state)
                (follows-set (role_at conf) ends messages messages streams
                (put_at (place conf name) (drop (used_of answer) (streams (place conf name))) streams) s.channels
                (place conf name) c (after_push c.fed (b ∷ bs) (Err f)) follows there
                (none_left fs at ∙ sym (tells-broken laws (after_push c.fed (b ∷ bs) (Err f))
                (put_at (place conf name) (drop (used_of answer) (streams (place conf name))) streams (place conf name))
                (breaks c.fed (b ∷ bs) f ok)))
                (inr (breaks c.fed (b ∷ bs) f ok))
                (stuck (breaks c.fed (b ∷ bs) f ok) some_left)
                (λ j differ. refl) (λ j differ. put_at-other (place conf name) j
                (drop (used_of answer) (streams (place conf name))) streams differ));
            took = subst (λ l. Took bytes before l) (sym still) took;
          }

    -- no message was completed
    push-partial : (u : ℕ) → gives c.fed (b ∷ bs) ≡ Ok (given u None) → BeginsWith (b ∷ bs) (streams (place conf name))
        → answer ≡ Ok (pushed u None) → t ≡ after_given conf s (place conf name) c (b ∷ bs) (Ok (given u None))
        → Goes conf ends (step.Push name piece) (reply.Push answer) messages streams bytes before s t ls
    push-partial u at begins answers state = record {
      messages_left = messages;
      bytes_left = bytes;
      same = λ marks. ap (λ a. replay conf (mark_if (completes a) (place conf name) marks) messages
          (record { past = s.past; bytes = bytes })) answers
          ∙ ap (λ x. replay conf marks messages (record { past = x.past; bytes = bytes })) (sym state);
      now = λ j f h. absurd (subst (λ a. IsFault a f) answers h.1);
      well = λ j h f m. h;
      pushes = λ j f h. absurd (subst (λ a. IsFault a f) answers h.1);
      follows = subst (λ x. Follows (role_at conf) ends messages
          (put_at (place conf name) (drop (used_of answer) (streams (place conf name))) streams) x.channels) (sym state)
          (follows-set (role_at conf) ends messages messages streams
          (put_at (place conf name) (drop (used_of answer) (streams (place conf name))) streams) s.channels
          (place conf name) c fed follows there
          here (inl (λ f m. heir f (subst (λ x. MayBreak x f) (sym same_ending) m)))
          (stand-on fed (put_at (place conf name) (drop (used_of answer) (streams (place conf name))) streams
          (place conf name)) begins same_ending) (λ j differ. refl)
          (λ j differ. put_at-other (place conf name) j
          (drop (used_of answer) (streams (place conf name))) streams differ));
      took = subst (λ l. Took bytes before l) (sym still) took;
    } where
      fed : FeedState
      fed = after_push c.fed (b ∷ bs) (Ok (given u None))

      rest : put_at (place conf name) (drop (used_of answer) (streams (place conf name))) streams
          (place conf name) ≡ begins.0
      rest =
          put_at-same (place conf name) (drop (used_of answer) (streams (place conf name))) streams
          ∙ ap (λ a. drop (used_of a) (streams (place conf name))) answers
          ∙ ap (λ n. drop n (streams (place conf name))) (laws.all c.fed (b ∷ bs) u at)
          ∙ ap (λ ys. drop (length (b ∷ bs)) ys) begins.1
          ∙ drop-append_seam (b ∷ bs) begins.0

      here : messages (place conf name) ≡ (transcript fed
          (put_at (place conf name) (drop (used_of answer) (streams (place conf name))) streams
          (place conf name))).events
      here =
          (follows (place conf name) c there).1
          ∙ ap (λ ys. (transcript c.fed ys).events) begins.1
          ∙ ap (λ x. x.events) (tells-partial laws c.fed b bs begins.0 u at)
          ∙ ap (λ ys. (transcript fed ys).events) (sym rest)

      same_ending : (transcript c.fed (streams (place conf name))).end ≡
          (transcript fed (put_at (place conf name) (drop (used_of answer) (streams (place conf name))) streams
          (place conf name))).end
      same_ending =
          ap (λ ys. (transcript c.fed ys).end) begins.1
          ∙ ap (λ x. x.end) (tells-partial laws c.fed b bs begins.0 u at)
          ∙ ap (λ ys. (transcript fed ys).end) (sym rest)

    -- a message was completed
    push-whole : (u : ℕ) (e : Message) → gives c.fed (b ∷ bs) ≡ Ok (given u (Some e)) → BeginsWith (b ∷ bs)
        (streams (place conf name))
        → answer ≡ message_answer (tables_of conf) s.past u (kind_of e) (edit_in c.role e) → t ≡ after_given conf s
        (place conf name) c (b ∷ bs) (Ok (given u (Some e)))
        → Goes conf ends (step.Push name piece) (reply.Push answer) messages streams bytes before s t ls
    push-whole u e at begins answers state = record {
      messages_left = put_at (place conf name) es messages;
      bytes_left = bytes;
      same = λ marks. ap (λ a. replay conf (mark_if (completes a) (place conf name) marks) messages
          (record { past = s.past; bytes = bytes })) answers
          ∙ ap (λ x. replay conf (mark_if x (place conf name) marks) messages (record { past = s.past; bytes = bytes }))
          (event-completes (tables_of conf) s.past u (kind_of e) (edit_in c.role e)).0
          ∙ replays marks
          ∙ ap (λ x. replay conf marks (put_at (place conf name) es messages) (record { past = x.past; bytes = bytes }))
          (sym state);
      now = λ j f h. absurd (no-fault (tables_of conf) s.past u (kind_of e) (edit_in c.role e) f
          (subst (λ a. IsFault a f) answers h.1));
      well = λ j h f m. h;
      pushes = λ j f h. absurd (no-fault (tables_of conf) s.past u (kind_of e) (edit_in c.role e) f
          (subst (λ a. IsFault a f) answers h.1));
      follows = subst (λ x. Follows (role_at conf) ends (put_at (place conf name) es messages)
          (put_at (place conf name) (drop (used_of answer) (streams (place conf name))) streams) x.channels) (sym state)
          (follows-set (role_at conf) ends messages (put_at (place conf name) es messages) streams
          (put_at (place conf name) (drop (used_of answer) (streams (place conf name))) streams) s.channels
          (place conf name) c fed follows there
          here (inl (λ f m. heir f (subst (λ x. MayBreak x f) (sym same_ending) m)))
          (stand-on fed (put_at (place conf name) (drop (used_of answer) (streams (place conf name))) streams
          (place conf name)) begins same_ending) (λ j differ. put_at-other (place conf name) j es messages differ)
          (λ j differ. put_at-other (place conf name) j
          (drop (used_of answer) (streams (place conf name))) streams differ));
      took = subst (λ l. Took bytes before l) (sym still) took;
    } where
      fed : FeedState
      fed = after_push c.fed (b ∷ bs) (Ok (given u (Some e)))

      es : List Message
      es = (transcript fed (drop u (streams (place conf name)))).events

      used : used_of answer ≡ u
      used = ap (λ a. used_of a) answers ∙ (event-completes (tables_of conf) s.past u (kind_of e) (edit_in c.role e)).1

      next : messages (place conf name) ≡ e ∷ es
      next =
          (follows (place conf name) c there).1
          ∙ ap (λ ys. (transcript c.fed ys).events) begins.1
          ∙ ap (λ x. x.events) (tells-whole laws c.fed b bs begins.0 u e at)
          ∙ ap (λ ys. e ∷ (transcript fed (drop u ys)).events) (sym begins.1)

      here : put_at (place conf name) es messages (place conf name) ≡
          (transcript fed (put_at (place conf name) (drop (used_of answer) (streams (place conf name))) streams
          (place conf name))).events
      here =
          put_at-same (place conf name) es messages
          ∙ ap (λ n. (transcript fed (drop n (streams (place conf name)))).events) (sym used)
          ∙ ap (λ ys. (transcript fed ys).events) (sym
          (put_at-same (place conf name) (drop (used_of answer) (streams (place conf name))) streams))

      same_ending : (transcript c.fed (streams (place conf name))).end ≡
          (transcript fed (put_at (place conf name) (drop (used_of answer) (streams (place conf name))) streams
          (place conf name))).end
      same_ending =
          ap (λ ys. (transcript c.fed ys).end) begins.1
          ∙ ap (λ x. x.end) (tells-whole laws c.fed b bs begins.0 u e at)
          ∙ ap (λ ys. (transcript fed (drop u ys)).end) (sym begins.1)
          ∙ ap (λ n. (transcript fed (drop n (streams (place conf name)))).end) (sym used)
          ∙ ap (λ ys. (transcript fed ys).end) (sym (put_at-same (place conf name)
          (drop (used_of answer) (streams (place conf name))) streams))

      replays : (marks : List Mark) → replay conf (of_feed (place conf name) ∷ marks) messages
          (record { past = s.past; bytes = bytes })
          ≡ replay conf marks (put_at (place conf name) es messages)
          (record { past = past_with conf c.role s.past e; bytes = bytes })
      replays marks =
          replay-feed conf (place conf name) marks messages (record { past = s.past; bytes = bytes })
          ∙ ap (λ xs. next_message (replay conf marks) conf (place conf name) xs messages
          (record { past = s.past; bytes = bytes })) next
          ∙ ap (λ r. replay conf marks (put_at (place conf name) es messages)
          (record { past = past_with conf r s.past e; bytes = bytes })) (sym (follows (place conf name) c there).0)

    push-gives : (past : Past) (next : Channel) → Gets (tables_of conf) s.past c (b ∷ bs) answer past next → t ≡ moved s
        (place conf name) past next → IsAmpleAnswer answer → IfAnswered answer
        (BeginsWith (b ∷ bs) (streams (place conf name)))
        → Goes conf ends (step.Push name piece) (reply.Push answer) messages streams bytes before s t ls
    unfolding Gives
    push-gives past next p leads ample offers = by_gave p.gave p.may p.answers state where
      state : t ≡ after_given conf s (place conf name) c (b ∷ bs) p.gave
      state = leads ∙ ap (λ x. moved s (place conf name) x next) p.edits ∙ ap
          (λ x. moved s (place conf name) (push_past (tables_of conf) c.role s.past p.gave) x) p.stream

      by_event : (u : ℕ) (o : Option Message) → gives c.fed (b ∷ bs) ≡ Ok (given u o)
          → answer ≡ push_answer (tables_of conf) c.role s.past (Ok (given u o)) → t ≡ after_given conf s
          (place conf name) c (b ∷ bs) (Ok (given u o))
          → Goes conf ends (step.Push name piece) (reply.Push answer) messages streams bytes before s t ls
      by_event u None at answers state = push-partial u at
          (subst (λ a. IfAnswered a (BeginsWith (b ∷ bs) (streams (place conf name)))) answers offers) answers state
      by_event u (Some e) at answers state =
          push-whole u e at
          (event-heard (tables_of conf) s.past u (kind_of e) (edit_in c.role e)
          (BeginsWith (b ∷ bs) (streams (place conf name)))
          (subst (λ a. IfAnswered a (BeginsWith (b ∷ bs) (streams (place conf name)))) answers offers))
          answers state

      by_gave : (gave : Result Given StreamFault) → Gives c.fed (b ∷ bs) gave → answer ≡ push_answer
          (tables_of conf) c.role s.past gave
          → t ≡ after_given conf s (place conf name) c (b ∷ bs) gave → Goes conf ends (step.Push name piece)
          (reply.Push answer) messages streams bytes before s t ls
      by_gave (Ok g) may answers state = by_event g.used g.event may answers state
      by_gave (Err f) may answers state =
          push-faulty f (subst (λ a. IsAmpleAnswer a) answers ample) may
          (fault-heard f (BeginsWith (b ∷ bs) (streams (place conf name)))
          (subst (λ a. IfAnswered a (BeginsWith (b ∷ bs) (streams (place conf name)))) answers offers)) answers state

  push-goes : (name piece : Bor (List ℕ)) (answer : Result Pushed Fault) → IsAmpleAnswer answer
      → IfAnswered answer (BeginsWith piece.now (streams (place conf name)))
      → PushTo (tables_of conf) s (place conf name) (slice_get s.channels (place conf name)) piece.now answer t
      → ls ≡ sinks
      → Goes conf ends (step.Push name piece) (reply.Push answer) messages streams bytes before s t ls
  push-goes name piece answer ample offers happened still = by_channel
      (slice_get s.channels (place conf name)) refl happened where
        quiet : (a : Result Pushed Fault) → completes a ≡ false → used_of a ≡ 0 → ((f : StreamFault) → IsFault a f → ⊥)
            → answer ≡ a → t ≡ s
            → Goes conf ends (step.Push name piece) (reply.Push answer) messages streams bytes before s t ls
        quiet a nothing none sound is same =
            push-stays name piece answer (ap (λ x. completes x) is ∙ nothing) (ap (λ x. used_of x) is ∙ none)
            (λ f g. sound f (subst (λ x. IsFault x f) is g)) same still

        unmoved : (c : Channel) → slice_get s.channels (place conf name) ≡ Some c → (past : Past) (next : Channel)
            → past ≡ s.past → next ≡ c
            → t ≡ moved s (place conf name) past next → t ≡ s
        unmoved c there past next same is leads =
            leads ∙ ap (λ x. moved s (place conf name) x next) same ∙ ap (λ x. moved s (place conf name) s.past x) is
            ∙ ap (λ xs. record { past = s.past; channels = xs }) (set-same s.channels (place conf name) c there)

        by_piece : (c : Channel) → slice_get s.channels (place conf name) ≡ Some c → (xs : List ℕ) → piece.now ≡ xs →
            (broken : Bool)
            → is_broken c.fed.condition ≡ broken → (past : Past) (next : Channel) → PushBy
            (tables_of conf) s.past c broken xs answer past next
            → t ≡ moved s (place conf name) past next
            → Goes conf ends (step.Push name piece) (reply.Push answer) messages streams bytes before s t ls
        by_piece c there xs e true is past next h leads =
            quiet (Err (refused cause.FeedBroken)) refl refl (λ f e. broken-stream f e) h.0
            (unmoved c there past next h.1 h.2 leads)
        by_piece c there [] e false is past next h leads =
            quiet (Ok (pushed 0 None)) refl refl (λ f e. e) h.0 (unmoved c there past next h.1 h.2 leads)
        by_piece c there (b ∷ bs) e false is past next h leads =
            push-gives name piece c b bs answer there is still past next h leads ample
            (subst (λ xs. IfAnswered answer (BeginsWith xs (streams (place conf name)))) e offers)

        by_channel : (o : Option Channel) → slice_get s.channels (place conf name) ≡ o → PushTo (tables_of conf) s
            (place conf name) o piece.now answer t
            → Goes conf ends (step.Push name piece) (reply.Push answer) messages streams bytes before s t ls
        by_channel None there h = quiet (Err (refused cause.UnknownFeed)) refl refl (λ f e. unknown-stream f e) h.0 h.1
        by_channel (Some c) there h = by_piece c there piece.now refl
            (is_broken c.fed.condition) refl h.past h.channel h.pushes h.leads

  -- a step that adds nothing to the order, and leaves the past
  finish-goes : (name : Bor (List ℕ)) (answer : Result (Unit {0}) Fault) → IfAnswered answer
      (streams (place conf name) ≡ [])
      → FinishTo s (place conf name) (slice_get s.channels (place conf name)) answer t → ls ≡ sinks → Goes conf ends
      (step.Finish name) (reply.Finish answer) messages streams bytes before s t ls
  finish-goes name answer offers happened still = by_channel
      (slice_get s.channels (place conf name)) refl happened where
        goes : t.past ≡ s.past → ((f : StreamFault) → IsFault answer f → MayBreak (ends (place conf name)) f)
            → (IsDone answer → (f : StreamFault) → MayBreak (ends (place conf name)) f → ⊥) → Follows
            (role_at conf) ends messages streams t.channels → Goes conf ends (step.Finish name)
            (reply.Finish answer) messages streams bytes before s t ls
        goes past faults well there = record {
          messages_left = messages;
          bytes_left = bytes;
          same = λ marks. ap (λ x. replay conf marks messages (record { past = x; bytes = bytes })) (sym past);
          now = λ j f h. subst (λ i. MayBreak (ends i) f) h.0 (faults f h.1);
          well = λ j h f m. well h.1 f (subst (λ i. MayBreak (ends i) f) (sym h.0) m);
          pushes = λ j f h. absurd h;
          follows = there;
          took = subst (λ l. Took bytes before l) (sym still) took;
        }

        stays-at : (a : Result (Unit {0}) Fault) → ((f : StreamFault) → IsFault a f → ⊥) → (IsDone a → ⊥) → answer ≡ a
            → t ≡ s
            → Goes conf ends (step.Finish name) (reply.Finish answer) messages streams bytes before s t ls
        stays-at a sound not_done is same = goes (ap (λ x. x.past) same)
            (λ f g. absurd (sound f (subst (λ x. IsFault x f) is g)))
            (λ d f m. absurd (not_done (subst (λ x. IsDone x) is d)))
            (subst (λ x. Follows (role_at conf) ends messages streams x.channels) (sym same) follows)

        unmoved : (c : Channel) → slice_get s.channels (place conf name) ≡ Some c → (next : Channel) → next ≡ c
            → t ≡ moved s (place conf name) s.past next → t ≡ s
        unmoved c there next is leads =
            leads ∙ ap (λ x. moved s (place conf name) s.past x) is
            ∙ ap (λ xs. record { past = s.past; channels = xs }) (set-same s.channels (place conf name) c there)

        stays : (a : Result (Unit {0}) Fault) → ((f : StreamFault) → IsFault a f → ⊥) → (IsDone a → ⊥) → (answer ≡ a) ×
            (t ≡ s)
            → Goes conf ends (step.Finish name) (reply.Finish answer) messages streams bytes before s t ls
        stays a sound not_done h = stays-at a sound not_done h.0 h.1

        heard : (gave : Result (Unit {0}) StreamFault) → IfAnswered (end_answer gave) (streams (place conf name) ≡ [])
            → streams (place conf name) ≡ []
        heard (Ok u) h = h
        heard (Err f) h = fault-heard f (streams (place conf name) ≡ []) h

        ending : (c : Channel) → slice_get s.channels (place conf name) ≡ Some c → is_broken c.fed.condition ≡ false →
            (next : Channel) → Ends c answer next → t ≡ moved s (place conf name) s.past next → Goes conf ends
            (step.Finish name) (reply.Finish answer) messages streams bytes before s t ls
        ending c there whole next p leads =
            let state : t ≡ moved s (place conf name) s.past (with_feed c (after_finish c.fed p.gave)) = leads ∙ ap
            (λ x. moved s (place conf name) s.past x) p.channel in
            let none : streams (place conf name) ≡ [] = heard p.gave
            (subst (λ a. IfAnswered a (streams (place conf name) ≡ [])) p.answers offers) in
            let fed : FeedState = after_finish c.fed p.gave in
            let none_told : (d : FeedState) → (transcript d (streams (place conf name))).events ≡ [] = λ d. ap
            (λ ys. (transcript d ys).events) none ∙ ap (λ x. x.events) (tells-none laws d) in
            let may : (f : StreamFault) → Finishes c.fed (Err f) → MayBreak (ends (place conf name)) f =
            λ f m. from-heir (ends (place conf name)) c.fed (streams (place conf name)) whole
            (follows (place conf name) c there).2 f
            (subst (λ ys. MayBreak (transcript c.fed ys).end f) (sym none)
            (subst (λ x. MayBreak x.end f) (sym (tells-none laws c.fed)) m)) in
            goes (ap (λ x. x.past) state)
            (λ f h. may f (finish-fault c.fed p.gave f p.may (subst (λ a. IsFault a f) p.answers h)))
            (λ d. finish-well laws (ends (place conf name)) c.fed p.gave (streams (place conf name)) whole none p.may
            (follows (place conf name) c there).3 (subst (λ a. IsDone a) p.answers d))
            (subst (λ x. Follows (role_at conf) ends messages streams x.channels) (sym state)
            (follows-set (role_at conf) ends messages messages streams streams s.channels
            (place conf name) c fed follows there
            ((follows (place conf name) c there).1 ∙ none_told c.fed ∙ sym (none_told fed))
            (subst (λ ys. Heir (ends (place conf name)) fed ys) (sym none)
            (finish-heir laws (ends (place conf name)) c.fed p.gave))
            (finish-stand laws (ends (place conf name)) c.fed p.gave (streams (place conf name)) whole none p.may
            (follows (place conf name) c there).3) (λ j differ. refl) (λ j differ. refl)))

        by_broken : (c : Channel) → slice_get s.channels (place conf name) ≡ Some c → (broken : Bool)
            → is_broken c.fed.condition ≡ broken
            → (next : Channel) → FinishBy c broken answer next → t ≡ moved s (place conf name) s.past next
            → Goes conf ends (step.Finish name) (reply.Finish answer) messages streams bytes before s t ls
        by_broken c there true is next h leads =
            stays (Err (refused cause.FeedBroken)) (λ f e. broken-stream f e) (λ d. d) (
              h.0,
              unmoved c there next h.1
                  leads,
            )
        by_broken c there false is next h leads = ending c there is next h leads

        by_channel : (o : Option Channel) → slice_get s.channels (place conf name) ≡ o → FinishTo s
            (place conf name) o answer t
            → Goes conf ends (step.Finish name) (reply.Finish answer) messages streams bytes before s t ls
        by_channel None there h = stays (Err (refused cause.UnknownFeed)) (λ f e. unknown-stream f e) (λ d. d) h
        by_channel (Some c) there h = by_broken c there (is_broken c.fed.condition) refl h.channel h.finishes h.leads

  undo-goes : (answer : Result (Unit {0}) Fault) → IsAmpleAnswer answer → UndoTo s answer t → ls ≡ sinks
      → Goes conf ends step.Undo (reply.Undo answer) messages streams bytes before s t ls
  undo-goes answer ample undo still = by_depth s.past.depth refl answer refl undo.1 where
    goes : t.past ≡ undone s.past → t.channels ≡ s.channels → Goes conf ends step.Undo
        (reply.Undo answer) messages streams bytes before s t ls
    goes past same = record {
      messages_left = messages;
      bytes_left = bytes;
      same = λ marks. replay-undo conf marks messages (record { past = s.past; bytes = bytes })
          ∙ ap (λ x. replay conf marks messages (record { past = x; bytes = bytes })) (sym past);
      now = λ j f h. absurd h;
      well = λ j h f m. h;
      pushes = λ j f h. absurd h;
      follows = subst (λ x. Follows (role_at conf) ends messages streams x) (sym same) follows;
      took = subst (λ l. Took bytes before l) (sym still) took;
    }

    past_is : t.past ≡ undo.0
    past_is = ap (λ x. x.past) undo.2

    by_depth : (d : ℕ) → s.past.depth ≡ d → (a : Result (Unit {0}) Fault) → answer ≡ a → UndoBy d s.past a undo.0
        → Goes conf ends step.Undo (reply.Undo answer) messages streams bytes before s t ls
    by_depth zero is a e h = goes (past_is ∙ h.1 ∙ sym (undo-nothing s.past is)) (ap (λ x. x.channels) undo.2)
    by_depth (suc d) is (Ok u) e h = goes (past_is ∙ h) (ap (λ x. x.channels) undo.2)
    by_depth (suc d) is (Err f) e h = absurd
        (subst (λ g. IsAmpleAnswer {X = Unit {0}} (Err g)) h.0 (subst (λ a. IsAmpleAnswer a) e ample))

  write-goes : (name : Bor (List ℕ)) (n : ℕ) (answer : Result ℕ ViewFault) → IsWrittenWhole answer
      → WriteTo conf s sinks name.now n answer ls → t ≡ s
      → Goes conf ends (step.Write name n) (reply.Write answer) messages streams bytes before s t ls
  write-goes name n answer ample w still = by_view (view_in conf name.now) refl w.writes where
    goes : (left : ℕ → List ℕ)
        → written_by conf (view_in conf name.now) n
        (record { past = s.past; bytes = bytes }) ≡ record { past = s.past; bytes = left }
        → Took left before ls → Goes conf ends (step.Write name n)
        (reply.Write answer) messages streams bytes before s t ls
    goes left is there = record {
      messages_left = messages;
      bytes_left = left;
      same = λ marks. replay-write conf name.now n marks messages (record { past = s.past; bytes = bytes })
          ∙ ap (λ x. replay conf marks messages x) is
          ∙ ap (λ x. replay conf marks messages (record { past = x.past; bytes = left })) (sym still);
      now = λ j f h. absurd h;
      well = λ j h f m. h;
      pushes = λ j f h. absurd h;
      follows = subst (λ x. Follows (role_at conf) ends messages streams x.channels) (sym still) follows;
      took = there;
    }

    whole_of : View → List ℕ
    whole_of view = stream_of (tables_of conf) view (world (tables_of conf) s.past.edits)

    taken : (whole : List ℕ) (count : ℕ) (was now : Sunk) → slice_get sinks n ≡ Some was → Writes was now
        (Ok count) whole → ls ≡ slice_set sinks n now → Took (put_at n (bytes n ++ whole) bytes) before ls
    taken whole count was now was_there writes result j old is = subst (λ l. Here l) (sym result)
        (by_number (same_by j n) (took j old is)) where
          Here : List Sunk → Type 0
          Here l = (new : Sunk) × (slice_get l j ≡ Some new) × Appends old.taken new.taken
              (put_at n (bytes n ++ whole) bytes j)

          all : take count whole ≡ whole
          all = ap (λ m. take m whole) writes.complete ∙ take-length whole

          by_number : (((j == n) ≡ true) × (j ≡ n)) ⊎ (((j == n) ≡ false) × (j ≡ n → ⊥))
              → (mid : Sunk) × (slice_get sinks j ≡ Some mid) × Appends old.taken mid.taken (bytes j) → Here
              (slice_set sinks n now)
          by_number (inl e) m =
              let same : m.0 ≡ was = same_Some m.0 was (sym m.1 ∙ ap (λ i. slice_get sinks i) e.1 ∙ was_there) in
              let before_it : Appends old.taken was.taken (bytes n) =
              subst (λ i. Appends old.taken was.taken (bytes i)) e.1
              (subst (λ x. Appends old.taken x.taken (bytes j)) same m.2) in
              let after_it : Appends was.taken now.taken whole = subst
              (λ ys. Appends was.taken now.taken ys) all writes.bytes in (
                now,
                ap (λ i. slice_get (slice_set sinks n now) i) e.1 ∙ get-set sinks n now was was_there,
                subst (λ ys. Appends old.taken now.taken ys)
                    (sym (ap (λ i. put_at n (bytes n ++ whole) bytes i) e.1 ∙ put_at-same n (bytes n ++ whole) bytes))
                    (appends-more old.taken was.taken now.taken (bytes n) whole before_it after_it),
              )
          by_number (inr e) m = (
            m.0,
            get-other sinks n j now e.1 ∙ m.1,
            subst (λ ys. Appends old.taken m.0.taken ys)
                (sym (put_at-other n j (bytes n ++ whole) bytes e.1)) m.2,
          )

    by_answer : (view : View) → view_in conf name.now ≡ Some view → (a : Result ℕ ViewFault) → answer ≡ a
        → WriteAnswers w.old w.new a (whole_of view)
        → Goes conf ends (step.Write name n) (reply.Write answer) messages streams bytes before s t ls
    by_answer view there (Ok count) e h =
        goes (put_at n (bytes n ++ whole_of view) bytes)
        (ap (λ o. written_by conf o n (record { past = s.past; bytes = bytes })) there)
        (taken (whole_of view) count w.old w.new w.there h w.result)
    by_answer view there (Err view_fault.UnknownView) e h = absurd h
    by_answer view there (Err (view_fault.Write f)) e h = absurd (subst (λ a. IsWrittenWhole a) e ample)

    by_view : (o : Option View) → view_in conf name.now ≡ o
        → WritesView (tables_of conf) s.past o w.old answer w.new
        → Goes conf ends (step.Write name n) (reply.Write answer) messages streams bytes before s t ls
    by_view None there h =
        goes bytes (ap (λ o. written_by conf o n (record { past = s.past; bytes = bytes })) there)
        (subst (λ l. Took bytes before l)
        (sym (w.result ∙ ap (λ x. slice_set sinks n x) h.1 ∙ set-same sinks n w.old w.there)) took)
    by_view (Some view) there h = by_answer view there answer refl h.0

  pub step-goes : (st : Step) (re : Reply) → IsAmple re → OffersNow conf streams st re → Steps conf s sinks st re t ls
      → Goes conf ends st re messages streams bytes before s t ls
  unfolding Steps
  step-goes (step.Push name piece) (reply.Push answer) ample offers h = push-goes name piece answer ample offers h.0 h.1
  step-goes (step.Finish name) (reply.Finish answer) ample offers h = finish-goes name answer offers h.0 h.1
  step-goes step.Undo (reply.Undo answer) ample offers h = undo-goes answer ample h.0 h.1
  step-goes (step.Write name n) (reply.Write answer) ample offers h = write-goes name n answer ample h.0 h.1
  step-goes _ _ ample offers h = elim h [ ]
