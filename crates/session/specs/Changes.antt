-- What the functions of which a push or an undo consists do to the rows and the undo records.
use Rattle.std.specs.Prelude.{◌≡◌, ℕ, List, Option, None, Some, Result, Ok, Err}
use Rattle.arrays.specs.Checked.{CheckedColumn}
use Rattle.feed.specs.Columns.{cells_in}
use Rattle.feed.specs.Events.{Event as Message}
use Rattle.feed.specs.declared.event.FeedEvent.{FeedEvent}
use Rattle.feed.specs.declared.event.FeedEvent.TheVariants as feed_event
use Rattle.schema_meta.specs.Rows.{rows_in}
use Rattle.view_lang.specs.Config.{Table}
use Rattle.view_lang.specs.Edits.{Edit, edit_of}
use Rattle.view_lang.specs.ViewColumns.{feed_columns}
use Rattle.view_lang.specs.declared.config.Role.{Role}
use Rattle.view_lang.specs.declared.unfit.Unfit.{Unfit}
use Rattle.row_keys.specs.Store.{Refuses}
use Rattle.row_keys.specs.declared.faults.EditFault.{EditFault}
use Rattle.upkeep.specs.Stores.{Rows}
use Rattle.row_keys.specs.TableChanges.{IsBatchOf}
use Rattle.session.specs.Shows.{ShowsChannel, ShowsPast}
use Rattle.session.specs.Steps.{Channel, FinishOf, Past, Pushes, Undoes, accepted, edit_in, kind_of, unfit_in}
use Rattle.session.specs.declared.calls.Event.{Event}
use Rattle.session.specs.declared.calls.Fault.{Fault}
use Rattle.session.specs.declared.calls.Pushed.{Pushed as Came}
use Rattle.session.specs.declared.link.Link.{Link}
use Rattle.session.specs.declared.undo.UndoRecord.{UndoRecord}

-- what a batch of these columns does
abbrev pub edit_by : Role → List CheckedColumn → ℕ → Edit
edit_by role columns rows = edit_of role (rows_in rows (cells_in columns))

-- An edit is accepted where no cause applies.
abbrev pub Answers : {X : Type 0} → Option Unfit → Result X EditFault → Type 0
Answers cause (Ok x) = cause ≡ None
Answers cause (Err f) = Refuses cause f

abbrev pub past_after : {X : Type 0} → Past → Edit → Result X EditFault → Past
past_after past e (Ok x) = accepted past e
past_after past e (Err f) = past

-- The pasts that the rows and the records represent before an edit, and after it.
abbrev pub Edits : List Table → Edit → Rows → List UndoRecord → Rows → List UndoRecord → Result (Unit {0}) EditFault
    → Type 0
Edits tables e old records new next answer =
    (past : Past) → ShowsPast tables old records past
    → Answers (unfit_in tables past e) answer × ShowsPast tables new next (past_after past e answer)

-- The pasts that the rows and the records represent before an undo, and after it.
abbrev pub UndoesTo : List Table → Rows → List UndoRecord → Result (Unit {0}) Fault → Rows → List UndoRecord → Type 0
UndoesTo tables old records answer new left =
    (past : Past) → ShowsPast tables old records past
    → (next : Past) × Undoes past answer next × ShowsPast tables new left next

-- the columns of a batch are those of its feed
abbrev pub IsBatchEvent : List Table → Role → FeedEvent → Type 0
IsBatchEvent tables role (feed_event.Batch columns rows body) = IsBatchOf (feed_columns tables role) columns.items rows
IsBatchEvent tables role _ = Unit {0}

abbrev pub unfit_by : List Table → Past → Option Edit → Option Unfit
unfit_by tables past None = None
unfit_by tables past (Some e) = unfit_in tables past e

-- A message is answered by its kind, or its edit is refused.
abbrev pub Responds : Message → Option Unfit → Result Event EditFault → Type 0
Responds m cause (Ok kind) = (cause ≡ None) × (kind ≡ kind_of m)
Responds m cause (Err f) = Refuses cause f

abbrev pub past_by : Past → Option Edit → Result Event EditFault → Past
past_by past None answer = past
past_by past (Some e) answer = past_after past e answer

-- the same of a message of a feed with this role
abbrev pub Takes : List Table → Role → Message → Rows → List UndoRecord → Rows → List UndoRecord
    → Result Event EditFault → Type 0
Takes tables role m old records new next answer =
    (past : Past) → ShowsPast tables old records past
    → Responds m (unfit_by tables past (edit_in role m)) answer
    × ShowsPast tables new next (past_by past (edit_in role m) answer)

-- A push is one of the definition, from any past and channel that are represented, and what it leaves represents those
-- to which it leads.
pub record Pushed (tables : List Table) (past : Past) (c : Channel) (piece : List ℕ) (answer : Result Came Fault)
    (link : Link) (rows : Rows) (records : List UndoRecord) : Type 0 where
  pub after : Past
  pub channel : Channel
  pub pushes : Pushes tables past c piece answer after channel
  pub shows : ShowsPast tables rows records after
  pub feed : ShowsChannel tables link channel

abbrev pub PushesTo : List Table → Link → Rows → List UndoRecord → List ℕ → Result Came Fault → Link → Rows
    → List UndoRecord → Type 0
PushesTo tables link rows records piece answer new_link new_rows new_records =
    (past : Past) (c : Channel) → ShowsPast tables rows records past → ShowsChannel tables link c
    → Pushed tables past c piece answer new_link new_rows new_records

-- so is the end of an input
pub record Ended (tables : List Table) (c : Channel) (answer : Result (Unit {0}) Fault) (link : Link) : Type 0 where
  pub channel : Channel
  pub finishes : FinishOf c answer channel
  pub feed : ShowsChannel tables link channel

abbrev pub EndsTo : Link → Result (Unit {0}) Fault → Link → Type 0
EndsTo link answer new_link =
    (tables : List Table) (c : Channel) → ShowsChannel tables link c → Ended tables c answer new_link
