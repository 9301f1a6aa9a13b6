-- A session as a state machine: its states, its steps, what a step may answer, and to which state it leads.
use Rattle.std.specs.Prelude.{
  ◌≡◌,
  ℕ,
  zero,
  suc,
  min,
  Bool,
  true,
  false,
  List,
  [],
  ◌∷◌,
  Option,
  None,
  Some,
  Result,
  Ok,
  Err,
  drop,
  map,
  slice_get,
  slice_set,
}
use Rattle.values.specs.StreamCauses.{cause_of as cause_named}
use Rattle.values.specs.declared.causes.Cause.TheVariants as cause
use Rattle.values.specs.declared.faults.StreamFault.{StreamFault}
use Rattle.schema_meta.specs.Means.{Means}
use Rattle.schema_meta.specs.Rows.{rows_in}
use Rattle.schema_meta.specs.Story.{story_of}
use Rattle.stream_writer.specs.Sinks.{Sunk, Writes}
use Rattle.stream_writer.specs.Stream.{coded_canon}
use Rattle.feed.specs.Events.{Event as Message, Given, batch, dictionary, ended, schema}
use Rattle.feed.specs.States.{FeedState, Finishes, Gives, after_finish, after_push, fresh, is_broken}
use Rattle.view_lang.specs.Causes.{cause_in}
use Rattle.view_lang.specs.Config.{Config, FeedConfig, Table, View, tables_of}
use Rattle.view_lang.specs.Edits.{Edit, edit_of}
use Rattle.view_lang.specs.Limits.{max_undo_depth}
use Rattle.view_lang.specs.UnfitCauses.{named}
use Rattle.view_lang.specs.ViewColumns.{feed_columns, view_columns}
use Rattle.view_lang.specs.Views.{view_of}
use Rattle.view_lang.specs.World.{World, world}
use Rattle.view_lang.specs.declared.config.Role.{Role}
use Rattle.view_lang.specs.declared.unfit.Unfit.{Unfit}
use Rattle.session.specs.Names.{place_of}
use Rattle.session.specs.Refusals.{refused}
use Rattle.session.specs.declared.calls.Event.{Event}
use Rattle.session.specs.declared.calls.Event.TheVariants as event
use Rattle.session.specs.declared.calls.Fault.{Fault}
use Rattle.session.specs.declared.calls.Pushed.{Pushed}
use Rattle.session.specs.declared.calls.Reply.{Reply}
use Rattle.session.specs.declared.calls.Reply.TheVariants as reply
use Rattle.session.specs.declared.calls.Step.{Step}
use Rattle.session.specs.declared.calls.Step.TheVariants as step
use Rattle.session.specs.declared.calls.ViewFault.{ViewFault}
use Rattle.session.specs.declared.calls.ViewFault.TheVariants as view_fault

-- the accepted edits that aren't undone, the newest first, and how many of them can be undone
pub record Past : Type 0 where
  pub edits : List Edit
  pub depth : ℕ

-- a feed: what its batches do, and the state of its stream
pub record Channel : Type 0 where
  pub role : Role
  pub fed : FeedState

-- a state of a session: its past, and the channel of each declared feed, in order
pub record State : Type 0 where
  pub past : Past
  pub channels : List Channel

abbrev pub no_edits : Past
no_edits = record { edits = []; depth = 0 }

abbrev pub opened : List Table → FeedConfig → Channel
opened tables plan = record { role = plan.role; fed = fresh (Some (feed_columns tables plan.role)) }

-- where a session begins
abbrev pub start : Config → State
start conf = record { past = no_edits; channels = map (opened (tables_of conf)) conf.feeds }

abbrev pub pushed : ℕ → Option Event → Pushed
pushed used e = record { used = used; event = e }

-- Edits

-- An accepted edit can be undone, and of those before it as many as the limit allows.
abbrev pub accepted : Past → Edit → Past
accepted past e = record { edits = e ∷ past.edits; depth = min max_undo_depth (suc past.depth) }

-- the past after an edit, which is accepted where no cause applies
abbrev pub edited : Past → Edit → Option Unfit → Past
edited past e None = accepted past e
edited past e (Some u) = past

-- the least cause for which an edit of the table doesn't fit
abbrev pub unfit_in : List Table → Past → Edit → Option Unfit
unfit_in tables past e = cause_in tables (world tables past.edits) e

-- Pushes

-- The batch of a message is an edit with its feed's role; no other message is one.
abbrev pub edit_in : Role → Message → Option Edit
edit_in role (schema fields) = None
edit_in role (dictionary id delta values) = None
edit_in role (batch columns rows body) = Some (edit_of role (rows_in rows columns))
edit_in role ended = None

-- which kind of message it was
abbrev pub kind_of : Message → Event
kind_of (schema fields) = event.Schema
kind_of (dictionary id delta values) = event.Dictionary
kind_of (batch columns rows body) = event.Batch
kind_of ended = event.End

-- what a push answers for a message whose edit fits, or has this cause
abbrev pub edit_answer : ℕ → Event → Option Unfit → Result Pushed Fault
edit_answer used e None = Ok (pushed used (Some e))
edit_answer used e (Some u) = Err (record { cause = named u; used = used })

abbrev pub message_answer : List Table → Past → ℕ → Event → Option Edit → Result Pushed Fault
message_answer tables past used kind None = Ok (pushed used (Some kind))
message_answer tables past used kind (Some e) = edit_answer used kind (unfit_in tables past e)

abbrev pub given_answer : List Table → Role → Past → ℕ → Option Message → Result Pushed Fault
given_answer tables role past used None = Ok (pushed used None)
given_answer tables role past used (Some m) = message_answer tables past used (kind_of m) (edit_in role m)

-- what a push answers, by what the feed gave
abbrev pub push_answer : List Table → Role → Past → Result Given StreamFault → Result Pushed Fault
push_answer tables role past (Ok g) = given_answer tables role past g.used g.event
push_answer tables role past (Err f) = Err (refused (cause_named f))

abbrev pub message_past : List Table → Past → Option Edit → Past
message_past tables past None = past
message_past tables past (Some e) = edited past e (unfit_in tables past e)

abbrev pub given_past : List Table → Role → Past → Option Message → Past
given_past tables role past None = past
given_past tables role past (Some m) = message_past tables past (edit_in role m)

abbrev pub push_past : List Table → Role → Past → Result Given StreamFault → Past
push_past tables role past (Ok g) = given_past tables role past g.event
push_past tables role past (Err f) = past

abbrev pub with_feed : Channel → FeedState → Channel
with_feed c fed = record { role = c.role; fed = fed }

-- the channel after a push, by what the feed gave
abbrev pub push_channel : Channel → List ℕ → Result Given StreamFault → Channel
push_channel c piece gave = with_feed c (after_push c.fed piece gave)

-- A piece that isn't empty is pushed to a feed that isn't broken: the feed gives what its definition says. After want
-- of memory, nothing is changed; an unfit edit is consumed.
pub record Gets (tables : List Table) (past : Past) (c : Channel) (piece : List ℕ) (answer : Result Pushed Fault)
    (next_past : Past) (next : Channel) : Type 0 where
  pub gave : Result Given StreamFault
  pub may : Gives c.fed piece gave
  pub answers : answer ≡ push_answer tables c.role past gave
  pub edits : next_past ≡ push_past tables c.role past gave
  pub stream : next ≡ push_channel c piece gave

abbrev pub PushBy : List Table → Past → Channel → Bool → List ℕ → Result Pushed Fault → Past → Channel → Type 0
PushBy tables past c true piece answer next_past next =
    (answer ≡ Err (refused cause.FeedBroken)) × (next_past ≡ past) × (next ≡ c)
PushBy tables past c false [] answer next_past next = (answer ≡ Ok (pushed 0 None)) × (next_past ≡ past) × (next ≡ c)
PushBy tables past c false (b ∷ bs) answer next_past next = Gets tables past c (b ∷ bs) answer next_past next

-- a push to a channel: its answer, and the past and the channel after it
abbrev pub Pushes : List Table → Past → Channel → List ℕ → Result Pushed Fault → Past → Channel → Type 0
Pushes tables past c piece answer next_past next =
    PushBy tables past c (is_broken c.fed.condition) piece answer next_past next

-- with another past, and another channel at that index
abbrev pub moved : State → ℕ → Past → Channel → State
moved s k past c = record { past = past; channels = slice_set s.channels k c }

pub record PushAt (tables : List Table) (s : State) (k : ℕ) (c : Channel) (piece : List ℕ) (answer : Result Pushed
    Fault)
    (new : State) : Type 0 where
  pub past : Past
  pub channel : Channel
  pub pushes : Pushes tables s.past c piece answer past channel
  pub leads : new ≡ moved s k past channel

abbrev pub PushTo : List Table → State → ℕ → Option Channel → List ℕ → Result Pushed Fault → State → Type 0
PushTo tables s k None piece answer new = (answer ≡ Err (refused cause.UnknownFeed)) × (new ≡ s)
PushTo tables s k (Some c) piece answer new = PushAt tables s k c piece answer new

-- The end of a feed's input

abbrev pub end_answer : Result (Unit {0}) StreamFault → Result (Unit {0}) Fault
end_answer (Ok u) = Ok u
end_answer (Err f) = Err (refused (cause_named f))

pub record Ends (c : Channel) (answer : Result (Unit {0}) Fault) (next : Channel) : Type 0 where
  pub gave : Result (Unit {0}) StreamFault
  pub may : Finishes c.fed gave
  pub answers : answer ≡ end_answer gave
  pub channel : next ≡ with_feed c (after_finish c.fed gave)

abbrev pub FinishBy : Channel → Bool → Result (Unit {0}) Fault → Channel → Type 0
FinishBy c true answer next = (answer ≡ Err (refused cause.FeedBroken)) × (next ≡ c)
FinishBy c false answer next = Ends c answer next

-- the end of a channel's input: its answer, and the channel after it
abbrev pub FinishOf : Channel → Result (Unit {0}) Fault → Channel → Type 0
FinishOf c answer next = FinishBy c (is_broken c.fed.condition) answer next

pub record FinishAt (s : State) (k : ℕ) (c : Channel) (answer : Result (Unit {0}) Fault) (new : State) : Type 0 where
  pub channel : Channel
  pub finishes : FinishOf c answer channel
  pub leads : new ≡ moved s k s.past channel

abbrev pub FinishTo : State → ℕ → Option Channel → Result (Unit {0}) Fault → State → Type 0
FinishTo s k None answer new = (answer ≡ Err (refused cause.UnknownFeed)) × (new ≡ s)
FinishTo s k (Some c) answer new = FinishAt s k c answer new

-- Undo

-- The latest edit is removed, if any can be undone.
abbrev pub undone_by : ℕ → Past → Past
undone_by zero past = past
undone_by (suc d) past = record { edits = drop 1 past.edits; depth = d }

unfoldable pub undone : Past → Past
undone past = undone_by past.depth past

-- An undo: its answer, and the past after it. Memory may be refused where there is an edit to undo.
abbrev pub UndoBy : ℕ → Past → Result (Unit {0}) Fault → Past → Type 0
UndoBy zero past answer next = (answer ≡ Err (refused cause.NothingToUndo)) × (next ≡ past)
UndoBy (suc d) past (Ok u) next = next ≡ undone past
UndoBy (suc d) past (Err f) next = (f ≡ refused cause.Memory) × (next ≡ past)

abbrev pub Undoes : Past → Result (Unit {0}) Fault → Past → Type 0
Undoes past answer next = UndoBy past.depth past answer next

abbrev pub UndoTo : State → Result (Unit {0}) Fault → State → Type 0
UndoTo s answer new = (p : Past) × Undoes s.past answer p × (new ≡ record { past = p; channels = s.channels })

-- Views

-- the canonical stream of a view, with dictionaries for its coded outputs
abbrev pub stream_of : List Table → View → World → List ℕ
stream_of tables view w = coded_canon (view_columns tables view) view.coded_outputs (view_of tables view w)

abbrev pub WriteAnswers : Sunk → Sunk → Result ℕ ViewFault → List ℕ → Type 0
WriteAnswers old new (Ok n) whole = Writes old new (Ok n) whole
WriteAnswers old new (Err (view_fault.Write f)) whole = Writes old new (Err f) whole
WriteAnswers old new (Err view_fault.UnknownView) whole = ⊥

-- Read by the format's rules, these bytes are the view's table: they have no fault, and their columns and rows are
-- those that the view's definition gives from scratch on these tables.
abbrev pub IsReadAsView : List Table → View → World → List ℕ → Type 0
IsReadAsView tables view w bytes = Means (story_of bytes) (view_columns tables view) (view_of tables view w)

-- The same of what was put, where all of it was.
abbrev pub IsReadIfWhole : List Table → View → World → Result ℕ ViewFault → Type 0
IsReadIfWhole tables view w (Ok n) = IsReadAsView tables view w (stream_of tables view w)
IsReadIfWhole tables view w (Err f) = Unit {0}

-- a write of a view: its answer, and what it does to its sink
abbrev pub WritesView : List Table → Past → Option View → Sunk → Result ℕ ViewFault → Sunk → Type 0
WritesView tables past None old answer new = (answer ≡ Err view_fault.UnknownView) × (new ≡ old)
WritesView tables past (Some view) old answer new =
    WriteAnswers old new answer (stream_of tables view (world tables past.edits))
    × IsReadIfWhole tables view (world tables past.edits) answer

-- Steps

-- the index of the feed of that name
abbrev pub place_in : Config → List ℕ → ℕ
place_in conf name = place_of name (map (λ f. f.name) conf.feeds)

-- the view of that name
abbrev pub view_in : Config → List ℕ → Option View
view_in conf name = slice_get conf.views (place_of name (map (λ v. v.name) conf.views))

abbrev pub PushStep : Config → State → List ℕ → List ℕ → Result Pushed Fault → State → Type 0
PushStep conf s name piece answer new =
    PushTo (tables_of conf) s (place_in conf name) (slice_get s.channels (place_in conf name)) piece answer new

abbrev pub FinishStep : Config → State → List ℕ → Result (Unit {0}) Fault → State → Type 0
FinishStep conf s name answer new =
    FinishTo s (place_in conf name) (slice_get s.channels (place_in conf name)) answer new

abbrev pub WriteStep : Config → State → List ℕ → Sunk → Result ℕ ViewFault → Sunk → Type 0
WriteStep conf s name old answer new = WritesView (tables_of conf) s.past (view_in conf name) old answer new

pub record WriteTo (conf : Config) (s : State) (sinks : List Sunk) (name : List ℕ) (n : ℕ) (answer : Result ℕ ViewFault)
    (after : List Sunk) : Type 0 where
  pub old : Sunk
  pub new : Sunk
  pub there : slice_get sinks n ≡ Some old
  pub writes : WriteStep conf s name old answer new
  pub result : after ≡ slice_set sinks n new

-- what a step may answer, and to which state it leads
unfoldable pub Steps : Config → State → List Sunk → Step → Reply → State → List Sunk → Type 0
Steps conf s sinks (step.Push name piece) (reply.Push answer) new after =
    PushStep conf s name.now piece.now answer new × (after ≡ sinks)
Steps conf s sinks (step.Finish name) (reply.Finish answer) new after =
    FinishStep conf s name.now answer new × (after ≡ sinks)
Steps conf s sinks step.Undo (reply.Undo answer) new after = UndoTo s answer new × (after ≡ sinks)
Steps conf s sinks (step.Write name n) (reply.Write answer) new after =
    WriteTo conf s sinks name.now n answer after × (new ≡ s)
Steps conf s sinks _ _ new after = ⊥

-- A run: each step from the state that the one before left, with one reply for each step.
unfoldable pub Run : Config → State → List Sunk → List Step → List Reply → State → List Sunk → Type 0
Run conf s sinks [] [] new after = (new ≡ s) × (after ≡ sinks)
Run conf s sinks (step ∷ steps) (reply ∷ replies) new after =
    (t : State) × (ls : List Sunk) × Steps conf s sinks step reply t ls × Run conf t ls steps replies new after
Run conf s sinks [] (reply ∷ replies) new after = ⊥
Run conf s sinks (step ∷ steps) [] new after = ⊥
