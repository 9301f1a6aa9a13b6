-- A run is replayed from its order and from what its feeds' bytes mean.
use Rattle.std.proofs.Common.{◌≡◌, ◌⊎◌, inl, inr, ℕ, suc, true, Option, None, Some, Ok, Err, List, [], ◌∷◌, refl, ap, sym, subst, ◌∙◌, arith}
use Rattle.std.specs.Prelude.{All, slice_get}
use Rattle.std.specs.Option.{option_map}
use Rattle.std.proofs.lemmas.Option.{slice_get-map, same_Some, none-some}
use Rattle.values.specs.Reading.{FailsWith, Faults, Reading}
use Rattle.values.specs.declared.faults.StreamFault.{StreamFault}
use Rattle.stream_writer.specs.Sinks.{Sunk}
use Rattle.feed.specs.Events.{Event as Message}
use Rattle.feed.specs.Transcript.{transcript}
use Rattle.feed.specs.States.{FeedState, is_broken}
use Rattle.view_lang.specs.Config.{Config, FeedConfig, tables_of}
use Rattle.session.specs.Steps.{Channel, Run, State, opened, start}
use Rattle.session.specs.declared.calls.Reply.{Reply}
use Rattle.session.specs.declared.calls.Step.{Step}
use Rattle.session.specs.Cuts.{Breaks, BreaksByPush, Broke, BrokeByPush, EndedWell, EndsWell, FaultsAreReported, FaultsBreak, FinishIsReported, IsAmple, IsOfferedWhole, IsRunOn, Left, MayBreak, Offers, PushFaultsAreReported, RunIsReplayed, SameRuns, Took, left_after, left_at_end, order, replay, replayed, role_at, role_by, transcript_at, transcript_of}
use Rattle.session.proofs.FedBytes.{FeedLaws, tells-none}
use Rattle.session.proofs.ReplayedFeeds.{appends-none, Heir, Stand, Follows, Goes, going, stuck, over}
use Rattle.session.proofs.ReplayedSteps.{step-goes}

first-ample : (st : Step) (re : Reply) (replies : List Reply) → All IsAmple (re ∷ replies) → IsAmple re
first-ample st re replies ample = ample 0 re (omega arith)

rest-ample : (re : Reply) (replies : List Reply) → All IsAmple (re ∷ replies) → All IsAmple replies
rest-ample re replies ample = λ k d less. ample (suc k) d (omega (arith, less))

-- what a run leaves
pub record Replayed (conf : Config) (left : Left) (new : State) (before after : List Sunk)
    (ends : ℕ → Reading FeedState) (streams : ℕ → List ℕ) (steps : List Step) (replies : List Reply) : Type 0 where
  pub stands : (k : ℕ) (c : Channel) → slice_get new.channels k ≡ Some c → Stand (ends k) c.fed
      (left_at_end conf streams steps replies k)
  pub faults : (k : ℕ) (f : StreamFault) → Broke conf k f steps replies → MayBreak (ends k) f
  pub pushes : (k : ℕ) (f : StreamFault) → BrokeByPush conf k f steps replies → FailsWith (ends k) f
  pub well : (k : ℕ) → EndedWell conf k steps replies → (f : StreamFault) → MayBreak (ends k) f → ⊥
  pub past : new.past ≡ left.past
  pub took : Took left.bytes before after

run-goes : (laws : FeedLaws) (conf : Config) (steps : List Step) (replies : List Reply) (ends : ℕ → Reading FeedState)
    (messages : ℕ → List Message) (streams bytes : ℕ → List ℕ)
    (before sinks : List Sunk) (s new : State) (after : List Sunk)
    → Follows (role_at conf) ends messages streams s.channels → Took bytes before sinks
    → All IsAmple replies → Offers conf streams steps replies → Run conf s sinks steps replies new after
    → Replayed conf (replay conf (order conf steps replies) messages
    (record { past = s.past; bytes = bytes })) new before after ends streams steps replies
unfolding Broke BrokeByPush EndedWell left_at_end Run Offers order replay
run-goes laws conf [] [] ends messages streams bytes before sinks s new after follows took ample offers run = record {
  stands = λ k c is. (follows k c (ap (λ x. slice_get x.channels k) (sym run.0) ∙ is)).3;
  faults = λ k f h. absurd h;
  well = λ k h f m. h;
  pushes = λ k f h. absurd h;
  past = ap (λ x. x.past) run.0;
  took = subst (λ l. Took bytes before l) (sym run.1) took;
}
run-goes laws conf (st ∷ steps)
    (re ∷ replies) ends messages streams bytes before sinks s new after follows took ample offers run =
    let g : Goes conf ends st re messages streams bytes before s run.0 run.1 = step-goes laws conf ends messages
    streams bytes before sinks s run.0 run.1 follows took st re (first-ample st re replies ample) offers.0 run.2 in
    let r = run-goes laws conf steps replies ends g.messages_left
    (left_after conf streams st re) g.bytes_left before run.1 run.0 new after g.follows g.took
    (rest-ample re replies ample) offers.1 run.3 in
    record {
      stands = r.stands;
      faults = λ k f h. by_time k f g r.faults h;
      well = λ k h. by_end k g r.well h;
      pushes = λ k f h. by_push k f g r.pushes h;
      past = r.past ∙ ap (λ left. left.past) (sym (g.same (order conf steps replies)));
      took = subst (λ left. Took left.bytes before after) (sym (g.same (order conf steps replies))) r.took;
    } where
      by_time : (k : ℕ) (f : StreamFault) → Goes conf ends st re messages streams bytes before s run.0 run.1
          → ((j : ℕ) (c : StreamFault) → Broke conf j c steps replies → MayBreak (ends j) c)
          → Breaks conf k f st re ⊎ Broke conf k f steps replies → MayBreak (ends k) f
      by_time k f g r (inl h) = g.now k f h
      by_time k f g r (inr h) = r k f h

      by_push : (k : ℕ) (f : StreamFault) → Goes conf ends st re messages streams bytes before s run.0 run.1
          → ((j : ℕ) (c : StreamFault) → BrokeByPush conf j c steps replies → FailsWith (ends j) c)
          → BreaksByPush conf k f st re ⊎ BrokeByPush conf k f steps replies → FailsWith (ends k) f
      by_push k f g r (inl h) = g.pushes k f h
      by_push k f g r (inr h) = r k f h

      by_end : (k : ℕ) → Goes conf ends st re messages streams bytes before s run.0 run.1
          → ((j : ℕ) → EndedWell conf j steps replies → (f : StreamFault) → MayBreak (ends j) f → ⊥)
          → EndsWell conf k st re ⊎ EndedWell conf k steps replies → (f : StreamFault) → MayBreak (ends k) f → ⊥
      by_end k g r (inl h) = g.well k h
      by_end k g r (inr h) = r k h
run-goes laws conf []
    (re ∷ replies) ends messages streams bytes before sinks s new after follows took ample offers run = elim run [ ]
run-goes laws conf (st ∷ steps) [] ends messages streams bytes before sinks s new after follows took ample offers run =
    elim run [ ]

-- at first
follows-start : (conf : Config) (streams : ℕ → List ℕ) → Follows (role_at conf) (λ k. (transcript_at conf streams k).end)
    (λ k. (transcript_at conf streams k).events) streams (start conf).channels
follows-start conf streams k c is = by_plan (slice_get conf.feeds k) refl
    (sym (slice_get-map (opened (tables_of conf)) conf.feeds k) ∙ is) where
      by_plan : (o : Option FeedConfig) → slice_get conf.feeds k ≡ o → option_map (opened (tables_of conf)) o ≡ Some c
          → (c.role ≡ role_by o) × ((transcript_of conf o (streams k)).events ≡ (transcript c.fed (streams k)).events) × Heir
          (transcript_of conf o (streams k)).end c.fed (streams k)
          × Stand (transcript_of conf o (streams k)).end c.fed (streams k)
      by_plan None there h = absurd (none-some c h)
      by_plan (Some plan) there h =
          let same : opened (tables_of conf) plan ≡ c = same_Some (opened (tables_of conf) plan) c h in (
            ap (λ x. x.role) (sym same),
            ap (λ x. (transcript x.fed (streams k)).events) same,
            inl (λ f m. subst (λ x. MayBreak (transcript x.fed (streams k)).end f) (sym same) m),
            going (ap (λ x. (transcript x.fed (streams k)).end) (sym same)),
          )

took-nothing : (sinks : List Sunk) → Took (λ n. []) sinks sinks
took-nothing sinks n old is = (old, is, appends-none old.taken)

run-replayed : (laws : FeedLaws) (conf : Config) (streams : ℕ → List ℕ) (steps : List Step) (replies : List Reply)
    (sinks : List Sunk) (new : State) (after : List Sunk)
    → IsRunOn conf streams steps replies sinks new after
    → Replayed conf (replayed conf streams (order conf steps replies)) new sinks after
    (λ k. (transcript_at conf streams k).end) streams steps replies
run-replayed laws conf streams steps replies sinks new after run =
    run-goes laws conf steps replies (λ k. (transcript_at conf streams k).end)
    (λ k. (transcript_at conf streams k).events) streams (λ n. []) sinks sinks (start conf) new after
    (follows-start conf streams) (took-nothing sinks) run.ample run.offers run.runs

pub run-is-replayed : FeedLaws → RunIsReplayed
run-is-replayed laws conf streams steps replies sinks new after run =
    let r : Replayed conf (replayed conf streams (order conf steps replies)) new sinks after
    (λ k. (transcript_at conf streams k).end) streams steps replies = run-replayed laws conf streams steps replies sinks new
    after run in
    record { past = r.past; took = r.took }

pub same-runs : FeedLaws → SameRuns
same-runs laws conf streams steps others replies answers sinks after sinks_too after_too new other run run_too same =
    let r : Replayed conf (replayed conf streams (order conf steps replies)) new sinks after
    (λ k. (transcript_at conf streams k).end) streams steps replies = run-replayed laws conf streams steps replies sinks new
    after run in
    let r_too : Replayed conf (replayed conf streams (order conf steps replies)) other sinks_too after_too
    (λ k. (transcript_at conf streams k).end) streams others answers =
    subst (λ marks. Replayed conf (replayed conf streams marks) other sinks_too after_too
    (λ k. (transcript_at conf streams k).end) streams others answers) (sym same)
    (run-replayed laws conf streams others answers sinks_too other after_too run_too) in
    record {
      left = replayed conf streams (order conf steps replies);
      leaves = record { past = r.past; took = r.took };
      leaves_too = record { past = r_too.past; took = r_too.took };
    }

pub faults-are-told : FeedLaws → FaultsAreReported
faults-are-told laws conf streams steps replies sinks new after run k f h =
    let r : Replayed conf (replayed conf streams (order conf steps replies)) new sinks after
    (λ k. (transcript_at conf streams k).end) streams steps replies =
    run-replayed laws conf streams steps replies sinks new after run in
    r.faults k f h

ok-err : (s : FeedState) (fs : Faults) → ◌≡◌ {A = Reading FeedState} (Ok s) (Err fs) → ⊥
ok-err s fs e = absurd (cc)

pub faults-break : FeedLaws → FaultsBreak
faults-break laws conf streams steps replies sinks new after run k c fs there is whole = by_offered whole where
  never : Stand (transcript_at conf streams k).end c.fed (left_at_end conf streams steps replies k)
      → left_at_end conf streams steps replies k ≡ [] → is_broken c.fed.condition ≡ true
  never (going e) none =
      absurd (ok-err c.fed fs (sym (ap (λ x. x.end) (tells-none laws c.fed)) ∙ ap (λ ys. (transcript c.fed ys).end)
      (sym none) ∙ e ∙ is))
  never (stuck broken some) none = broken
  never (over d e n g) none = absurd (ok-err d fs (sym e ∙ is))

  by_offered : IsOfferedWhole (left_at_end conf streams steps replies k) c → is_broken c.fed.condition ≡ true
  by_offered (inl none) =
      let r : Replayed conf (replayed conf streams (order conf steps replies)) new sinks after
      (λ k. (transcript_at conf streams k).end) streams steps replies =
      run-replayed laws conf streams steps replies sinks new after run in
      never (r.stands k c there) none
  by_offered (inr broken) = broken

pub finish-is-told : FeedLaws → FinishIsReported
finish-is-told laws conf streams steps replies sinks new after run k c h m =
    let r : Replayed conf (replayed conf streams (order conf steps replies)) new sinks after
    (λ j. (transcript_at conf streams j).end) streams steps replies =
    run-replayed laws conf streams steps replies sinks new after run in
    r.well k h c m

pub push-faults-are-told : FeedLaws → PushFaultsAreReported
push-faults-are-told laws conf streams steps replies sinks new after run k c h =
    let r : Replayed conf (replayed conf streams (order conf steps replies)) new sinks after
    (λ j. (transcript_at conf streams j).end) streams steps replies =
    run-replayed laws conf streams steps replies sinks new after run in
    r.pushes k c h
