-- What a run leaves doesn't depend on how feeds are cut: it is a function of the order in which messages complete, with
-- the undos and writes between, and of what the joined bytes of each feed mean. Feeds are numbered here in the order of
-- their declarations. docs/ARCHITECTURE.md has a picture of it.
use Rattle.std.specs.Prelude.{
  ◌≡◌,
  ◌⊎◌,
  ℕ,
  ◌++◌,
  ◌==◌,
  All,
  Bool,
  true,
  false,
  List,
  [],
  ◌∷◌,
  Option,
  None,
  Some,
  Result,
  Ok,
  Err,
  drop,
  if◌then◌else◌,
  is_some,
  slice_get,
}
use Rattle.std.specs.Io.KnownBytes.{Appends}
use Rattle.values.specs.Reading.{FailsWith, Faults, IsAmong, Reading}
use Rattle.values.specs.StreamCauses.{cause_of as cause_named}
use Rattle.values.specs.declared.causes.Cause.{Cause}
use Rattle.values.specs.declared.causes.Cause.TheVariants as cause
use Rattle.values.specs.declared.faults.StreamFault.{StreamFault}
use Rattle.stream_writer.specs.Sinks.{Sunk}
use Rattle.feed.specs.Events.{Event as Message}
use Rattle.feed.specs.States.{FeedState, Finishes, fresh, is_broken}
use Rattle.feed.specs.Transcript.{Transcript, no_events, transcript}
use Rattle.view_lang.specs.Config.{Config, FeedConfig, View, tables_of}
use Rattle.view_lang.specs.ViewColumns.{feed_columns}
use Rattle.view_lang.specs.World.{world}
use Rattle.view_lang.specs.declared.config.Role.{Role}
use Rattle.view_lang.specs.declared.config.Role.TheVariants as role
use Rattle.session.specs.Steps.{
  Channel,
  Past,
  Run,
  State,
  edit_in,
  message_past,
  no_edits,
  place_in,
  start,
  stream_of,
  undone,
  view_in,
}
use Rattle.session.specs.declared.calls.Fault.{Fault}
use Rattle.session.specs.declared.calls.Pushed.{Pushed}
use Rattle.session.specs.declared.calls.Reply.{Reply}
use Rattle.session.specs.declared.calls.Reply.TheVariants as reply
use Rattle.session.specs.declared.calls.Step.{Step}
use Rattle.session.specs.declared.calls.Step.TheVariants as step
use Rattle.session.specs.declared.calls.ViewFault.{ViewFault}
use Rattle.session.specs.declared.calls.ViewFault.TheVariants as view_fault

-- What bytes mean

abbrev pub transcript_of : Config → Option FeedConfig → List ℕ → Transcript
transcript_of conf None bytes = no_events (Ok (fresh None))
transcript_of conf (Some plan) bytes = transcript (fresh (Some (feed_columns (tables_of conf) plan.role))) bytes

-- what the stream of a feed means, from its beginning: its messages, and then its faults, or the feed's state once all
-- is consumed
abbrev pub transcript_at : Config → (ℕ → List ℕ) → ℕ → Transcript
transcript_at conf streams k = transcript_of conf (slice_get conf.feeds k) (streams k)

-- A feed whose bytes end so may break by this fault: by a push, or by its finish where all its bytes are consumed.
abbrev pub MayBreak : Reading FeedState → StreamFault → Type 0
MayBreak (Ok s) f = Finishes s (Err f)
MayBreak (Err fs) f = IsAmong fs f

-- The order of a run

-- A feed has completed a message, also one whose edit doesn't fit; an undo; a view that is written to a sink.
pub data Mark : Type 0 where
  of_feed : ℕ → Mark
  of_undo : Mark
  of_write : List ℕ → ℕ → Mark

abbrev pub is_unfit : Cause → Bool
is_unfit cause.NullKey = true
is_unfit cause.DuplicateKey = true
is_unfit cause.UnknownKey = true
is_unfit cause.TooManyRows = true
is_unfit cause.CellTooHeavy = true
is_unfit _ = false

abbrev pub completes : Result Pushed Fault → Bool
completes (Ok p) = is_some p.event
completes (Err f) = is_unfit f.cause

abbrev pub mark_if : Bool → ℕ → List Mark → List Mark
mark_if true k marks = of_feed k ∷ marks
mark_if false k marks = marks

abbrev pub marked : Config → Step → Reply → List Mark → List Mark
marked conf (step.Push name piece) (reply.Push answer) marks = mark_if (completes answer) (place_in conf name.now) marks
marked conf step.Undo (reply.Undo answer) marks = of_undo ∷ marks
marked conf (step.Write name n) (reply.Write answer) marks = of_write name.now n ∷ marks
marked conf _ _ marks = marks

-- from its steps and replies alone
unfoldable pub order : Config → List Step → List Reply → List Mark
order conf [] replies = []
order conf (s ∷ ss) [] = []
order conf (s ∷ ss) (r ∷ rs) = marked conf s r (order conf ss rs)

-- What is offered

abbrev pub put_at : {X : Type 0} → ℕ → X → (ℕ → X) → ℕ → X
put_at k x f j = if j == k then x else f j

abbrev pub used_of : Result Pushed Fault → ℕ
used_of (Ok p) = p.used
used_of (Err f) = f.used

-- what remains to be offered: what was used isn't offered again
abbrev pub left_after : Config → (ℕ → List ℕ) → Step → Reply → ℕ → List ℕ
left_after conf streams (step.Push name piece) (reply.Push answer) =
    put_at (place_in conf name.now) (drop (used_of answer) (streams (place_in conf name.now))) streams
left_after conf streams _ _ = streams

abbrev pub BeginsWith : List ℕ → List ℕ → Type 0
BeginsWith piece bytes = (rest : List ℕ) × (bytes ≡ piece ++ rest)

-- A feed that is broken or isn't declared consumes no bytes, so nothing is required of what is offered to it.
abbrev pub is_unheard : Cause → Bool
is_unheard cause.FeedBroken = true
is_unheard cause.UnknownFeed = true
is_unheard _ = false

abbrev pub Unless : Bool → Type 0 → Type 0
Unless true claim = Unit {0}
Unless false claim = claim

abbrev pub IfHeard : Cause → Type 0 → Type 0
IfHeard c claim = Unless (is_unheard c) claim

abbrev pub IfAnswered : {X : Type 0} → Result X Fault → Type 0 → Type 0
IfAnswered (Ok x) claim = claim
IfAnswered (Err f) claim = IfHeard f.cause claim

-- A piece is a prefix of what remains to be offered, and a feed is finished once nothing remains.
abbrev pub OffersNow : Config → (ℕ → List ℕ) → Step → Reply → Type 0
OffersNow conf streams (step.Push name piece) (reply.Push answer) =
    IfAnswered answer (BeginsWith piece.now (streams (place_in conf name.now)))
OffersNow conf streams (step.Finish name) (reply.Finish answer) =
    IfAnswered answer (streams (place_in conf name.now) ≡ [])
OffersNow conf streams _ _ = Unit {0}

-- A run offers each feed its stream, in pieces: what a push leaves unused is offered next.
unfoldable pub Offers : Config → (ℕ → List ℕ) → List Step → List Reply → Type 0
Offers conf streams [] replies = Unit {0}
Offers conf streams (s ∷ ss) [] = Unit {0}
Offers conf streams (s ∷ ss) (r ∷ rs) = OffersNow conf streams s r × Offers conf (left_after conf streams s r) ss rs

-- Neither want of memory nor a sink that failed

abbrev pub IsOther : Cause → Type 0
IsOther cause.Memory = ⊥
IsOther _ = Unit {0}

abbrev pub IsAmpleAnswer : {X : Type 0} → Result X Fault → Type 0
IsAmpleAnswer (Ok x) = Unit {0}
IsAmpleAnswer (Err f) = IsOther f.cause

abbrev pub IsWrittenWhole : Result ℕ ViewFault → Type 0
IsWrittenWhole (Ok n) = Unit {0}
IsWrittenWhole (Err view_fault.UnknownView) = Unit {0}
IsWrittenWhole (Err (view_fault.Write f)) = ⊥

abbrev pub IsAmple : Reply → Type 0
IsAmple (reply.Push answer) = IsAmpleAnswer answer
IsAmple (reply.Finish answer) = IsAmpleAnswer answer
IsAmple (reply.Undo answer) = IsAmpleAnswer answer
IsAmple (reply.Write answer) = IsWrittenWhole answer

-- What is left by an order

-- the past, and the bytes that went into each sink
pub record Left : Type 0 where
  pub past : Past
  pub bytes : ℕ → List ℕ

abbrev pub nothing_left : Left
nothing_left = record { past = no_edits; bytes = λ n. [] }

abbrev pub role_by : Option FeedConfig → Role
role_by None = role.Append
role_by (Some plan) = plan.role

abbrev pub role_at : Config → ℕ → Role
role_at conf k = role_by (slice_get conf.feeds k)

abbrev pub past_with : Config → Role → Past → Message → Past
past_with conf r past m = message_past (tables_of conf) past (edit_in r m)

abbrev pub written_by : Config → Option View → ℕ → Left → Left
written_by conf None n left = left
written_by conf (Some view) n left = record {
  past = left.past;
  bytes =
      put_at n (left.bytes n ++ stream_of (tables_of conf) view (world (tables_of conf) left.past.edits)) left.bytes;
}

-- the next message of the feed k
abbrev pub next_message : ((ℕ → List Message) → Left → Left) → Config → ℕ → List Message → (ℕ → List Message) → Left
    → Left
next_message next conf k [] messages left = next messages left
next_message next conf k (m ∷ ms) messages left =
    next (put_at k ms messages) (record { past = past_with conf (role_at conf k) left.past m; bytes = left.bytes })

-- what is left where the feeds complete these messages in this order
unfoldable pub replay : Config → List Mark → (ℕ → List Message) → Left → Left
replay conf [] messages left = left
replay conf (of_feed k ∷ marks) messages left = next_message (replay conf marks) conf k (messages k) messages left
replay conf (of_undo ∷ marks) messages left =
    replay conf marks messages (record { past = undone left.past; bytes = left.bytes })
replay conf (of_write name n ∷ marks) messages left =
    replay conf marks messages (written_by conf (view_in conf name) n left)

-- these bytes went into each sink
abbrev pub Took : (ℕ → List ℕ) → List Sunk → List Sunk → Type 0
Took bytes before after =
    (n : ℕ) (old : Sunk) → slice_get before n ≡ Some old
    → (new : Sunk) × (slice_get after n ≡ Some new) × Appends old.taken new.taken (bytes n)

-- A run that ended in this state, and did this to its sinks, left this: the edits that are accepted and not undone,
-- how many of them can be undone, and of each sink that shows its bytes those that went into it. What was offered of a
-- message that isn't complete is no part of it.
pub record Leaves (left : Left) (new : State) (before after : List Sunk) : Type 0 where
  pub past : new.past ≡ left.past
  pub took : Took left.bytes before after

-- a run from a fresh session, without want of memory and with sinks that didn't fail, that offers each feed its stream
pub record IsRunOn (conf : Config) (streams : ℕ → List ℕ) (steps : List Step) (replies : List Reply)
    (sinks : List Sunk) (new : State) (after : List Sunk) : Type 0 where
  pub runs : Run conf (start conf) sinks steps replies new after
  pub ample : All IsAmple replies
  pub offers : Offers conf streams steps replies

abbrev pub replayed : Config → (ℕ → List ℕ) → List Mark → Left
replayed conf streams marks = replay conf marks (λ k. (transcript_at conf streams k).events) nothing_left

-- The laws

-- What a run leaves is a function of its order and of what the joined bytes of the feeds mean.
abbrev pub RunIsReplayed : Type 0
RunIsReplayed =
    (conf : Config) (streams : ℕ → List ℕ) (steps : List Step) (replies : List Reply) (sinks : List Sunk) (new : State)
    (after : List Sunk)
    → IsRunOn conf streams steps replies sinks new after
    → Leaves (replayed conf streams (order conf steps replies)) new sinks after

-- Two runs left the same.
pub record SameLeft (new other : State) (sinks after sinks_too after_too : List Sunk) : Type 0 where
  pub left : Left
  pub leaves : Leaves left new sinks after
  pub leaves_too : Leaves left other sinks_too after_too

-- Two runs that offer each feed the same stream, with one order: they accept the same edits and write the same bytes.
-- Each prefix of a run is a run, so they do at each mark of that order.
abbrev pub SameRuns : Type 0
SameRuns =
    (conf : Config) (streams : ℕ → List ℕ) (steps others : List Step) (replies answers : List Reply)
    (sinks after sinks_too after_too : List Sunk) (new other : State)
    → IsRunOn conf streams steps replies sinks new after
    → IsRunOn conf streams others answers sinks_too other after_too
    → order conf steps replies ≡ order conf others answers
    → SameLeft new other sinks after sinks_too after_too

abbrev pub IsFault : {X : Type 0} → Result X Fault → StreamFault → Type 0
IsFault (Ok x) f = ⊥
IsFault (Err a) f = a.cause ≡ cause_named f

-- the feed k answered this fault
abbrev pub Breaks : Config → ℕ → StreamFault → Step → Reply → Type 0
Breaks conf k f (step.Push name piece) (reply.Push answer) = (place_in conf name.now ≡ k) × IsFault answer f
Breaks conf k f (step.Finish name) (reply.Finish answer) = (place_in conf name.now ≡ k) × IsFault answer f
Breaks conf k f _ _ = ⊥

unfoldable pub Broke : Config → ℕ → StreamFault → List Step → List Reply → Type 0
Broke conf k f [] replies = ⊥
Broke conf k f (s ∷ ss) [] = ⊥
Broke conf k f (s ∷ ss) (r ∷ rs) = Breaks conf k f s r ⊎ Broke conf k f ss rs

-- The fault by which a feed breaks is one of those of its joined bytes.
abbrev pub FaultsAreReported : Type 0
FaultsAreReported =
    (conf : Config) (streams : ℕ → List ℕ) (steps : List Step) (replies : List Reply) (sinks : List Sunk) (new : State)
    (after : List Sunk)
    → IsRunOn conf streams steps replies sinks new after
    → (k : ℕ) (f : StreamFault) → Broke conf k f steps replies
    → MayBreak (transcript_at conf streams k).end f

-- what was never consumed
unfoldable pub left_at_end : Config → (ℕ → List ℕ) → List Step → List Reply → ℕ → List ℕ
left_at_end conf streams [] replies = streams
left_at_end conf streams (s ∷ ss) [] = streams
left_at_end conf streams (s ∷ ss) (r ∷ rs) = left_at_end conf (left_after conf streams s r) ss rs

-- All was offered, or else the feed is broken.
abbrev pub IsOfferedWhole : List ℕ → Channel → Type 0
IsOfferedWhole left c = (left ≡ []) ⊎ (is_broken c.fed.condition ≡ true)

-- A fault of the joined bytes breaks the feed, however they were cut.
abbrev pub FaultsBreak : Type 0
FaultsBreak =
    (conf : Config) (streams : ℕ → List ℕ) (steps : List Step) (replies : List Reply) (sinks : List Sunk) (new : State)
    (after : List Sunk)
    → IsRunOn conf streams steps replies sinks new after
    → (k : ℕ) (c : Channel) (fs : Faults) → slice_get new.channels k ≡ Some c
    → (transcript_at conf streams k).end ≡ Err fs
    → IsOfferedWhole (left_at_end conf streams steps replies k) c
    → is_broken c.fed.condition ≡ true

abbrev pub IsDone : {X : Type 0} → Result X Fault → Type 0
IsDone (Ok x) = Unit {0}
IsDone (Err f) = ⊥

-- a finish of the feed k was accepted
abbrev pub EndsWell : Config → ℕ → Step → Reply → Type 0
EndsWell conf k (step.Finish name) (reply.Finish answer) = (place_in conf name.now ≡ k) × IsDone answer
EndsWell conf k _ _ = ⊥

unfoldable pub EndedWell : Config → ℕ → List Step → List Reply → Type 0
EndedWell conf k [] replies = ⊥
EndedWell conf k (s ∷ ss) [] = ⊥
EndedWell conf k (s ∷ ss) (r ∷ rs) = EndsWell conf k s r ⊎ EndedWell conf k ss rs

-- A feed is finished only where no fault can break it, however it was cut.
abbrev pub FinishIsReported : Type 0
FinishIsReported =
    (conf : Config) (streams : ℕ → List ℕ) (steps : List Step) (replies : List Reply) (sinks : List Sunk) (new : State)
    (after : List Sunk)
    → IsRunOn conf streams steps replies sinks new after
    → (k : ℕ) (f : StreamFault) → EndedWell conf k steps replies
    → MayBreak (transcript_at conf streams k).end f → ⊥

-- a push to the feed k answered this fault
abbrev pub BreaksByPush : Config → ℕ → StreamFault → Step → Reply → Type 0
BreaksByPush conf k f (step.Push name piece) (reply.Push answer) = (place_in conf name.now ≡ k) × IsFault answer f
BreaksByPush conf k f _ _ = ⊥

unfoldable pub BrokeByPush : Config → ℕ → StreamFault → List Step → List Reply → Type 0
BrokeByPush conf k f [] replies = ⊥
BrokeByPush conf k f (s ∷ ss) [] = ⊥
BrokeByPush conf k f (s ∷ ss) (r ∷ rs) = BreaksByPush conf k f s r ⊎ BrokeByPush conf k f ss rs

-- A push breaks a feed only where its joined bytes have a fault, by one of those.
abbrev pub PushFaultsAreReported : Type 0
PushFaultsAreReported =
    (conf : Config) (streams : ℕ → List ℕ) (steps : List Step) (replies : List Reply) (sinks : List Sunk) (new : State)
    (after : List Sunk)
    → IsRunOn conf streams steps replies sinks new after
    → (k : ℕ) (f : StreamFault) → BrokeByPush conf k f steps replies
    → FailsWith (transcript_at conf streams k).end f

-- the feed k is asked to finish
abbrev pub AsksNow : Config → ℕ → Step → Type 0
AsksNow conf k (step.Finish name) = place_in conf name.now ≡ k
AsksNow conf k _ = ⊥

unfoldable pub AsksEnd : Config → ℕ → List Step → Type 0
AsksEnd conf k [] = ⊥
AsksEnd conf k (s ∷ ss) = AsksNow conf k s ⊎ AsksEnd conf k ss

-- Two runs that offer a feed all of the same bytes, where the second finishes it if the first does: if it is broken
-- after the first, it is broken after the second.
abbrev pub BreaksInBoth : Type 0
BreaksInBoth =
    (conf : Config) (streams : ℕ → List ℕ) (steps others : List Step) (replies answers : List Reply)
    (sinks after sinks_too after_too : List Sunk) (new other : State)
    → IsRunOn conf streams steps replies sinks new after
    → IsRunOn conf streams others answers sinks_too other after_too
    → (k : ℕ) (plan : FeedConfig) (c d : Channel) → slice_get conf.feeds k ≡ Some plan
    → slice_get new.channels k ≡ Some c → slice_get other.channels k ≡ Some d
    → IsOfferedWhole (left_at_end conf streams others answers k) d
    → (AsksEnd conf k steps → AsksEnd conf k others)
    → is_broken c.fed.condition ≡ true → is_broken d.fed.condition ≡ true
