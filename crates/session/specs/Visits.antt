-- How often rows of the main table are opened.
use Rattle.std.specs.Prelude.{◌≡◌, List, [], ◌∷◌, Option, None, Some, Result, Ok, Err}
use Rattle.values.specs.declared.causes.Cause.{Cause}
use Rattle.values.specs.declared.causes.Cause.TheVariants as cause
use Rattle.row_keys.specs.declared.faults.EditFault.{EditFault}
use Rattle.row_keys.specs.declared.faults.EditFault.TheVariants as edit_fault
use Rattle.upkeep.specs.LiveParts.{LiveParts}
use Rattle.upkeep.specs.Stores.{Rows, rows_in, tables_in, visits_in}
use Rattle.upkeep.specs.Touched.{OpensOnce, touched}
use Rattle.session.specs.declared.calls.Event.{Event}
use Rattle.session.specs.declared.calls.Event.TheVariants as event
use Rattle.session.specs.declared.calls.Fault.{Fault}
use Rattle.session.specs.declared.calls.Pushed.{Pushed}
use Rattle.session.specs.declared.undo.UndoRecord.{UndoRecord}

abbrev pub OpensNone : LiveParts → LiveParts → Type 0
OpensNone old new = visits_in new.stores ≡ visits_in old.stores

-- Rows are opened for the newest edit, which comes first: those that it touches.
abbrev pub OpensTouched : LiveParts → Rows → List UndoRecord → LiveParts → Type 0
OpensTouched old rows [] new = OpensNone old new
OpensTouched old rows (r ∷ rs) new =
    OpensOnce old (touched (tables_in old.stores) old.views rows r.table r.change) new

-- An edit that is accepted opens at most as many rows for each view as it touches; one that doesn't fit opens none.
abbrev pub EditOpens : {X : Type 0} → LiveParts → Result X EditFault → List UndoRecord → LiveParts → Type 0
EditOpens old (Ok x) records new = OpensTouched old (rows_in new.stores) records new
EditOpens old (Err (edit_fault.Unfit u)) records new = OpensNone old new
EditOpens old (Err edit_fault.Memory) records new = Unit {0}

-- The same of messages, of which batches alone are edits.
abbrev pub EventOpens : LiveParts → Event → List UndoRecord → LiveParts → Type 0
EventOpens old event.Batch records new = OpensTouched old (rows_in new.stores) records new
EventOpens old _ records new = OpensNone old new

abbrev pub MessageOpens : LiveParts → Result Event EditFault → List UndoRecord → LiveParts → Type 0
MessageOpens old (Ok e) records new = EventOpens old e records new
MessageOpens old (Err (edit_fault.Unfit u)) records new = OpensNone old new
MessageOpens old (Err edit_fault.Memory) records new = Unit {0}

-- What is refused for want of memory may have opened rows; what is refused for another cause has opened none.
abbrev pub RefusalOpens : Cause → LiveParts → LiveParts → Type 0
RefusalOpens cause.Memory old new = Unit {0}
RefusalOpens _ old new = OpensNone old new

abbrev pub PushedOpens : LiveParts → Option Event → List UndoRecord → LiveParts → Type 0
PushedOpens old None records new = OpensNone old new
PushedOpens old (Some e) records new = EventOpens old e records new

-- A push that completes a batch opens the rows that the edit touches; all others open none.
abbrev pub PushOpens : LiveParts → Result Pushed Fault → List UndoRecord → LiveParts → Type 0
PushOpens old (Ok p) records new = PushedOpens old p.event records new
PushOpens old (Err f) records new = RefusalOpens f.cause old new

-- So does an undo of the newest edit.
abbrev pub UndoOpens : LiveParts → List UndoRecord → Result (Unit {0}) Fault → LiveParts → Type 0
UndoOpens old records (Ok u) new = OpensTouched old (rows_in old.stores) records new
UndoOpens old records (Err f) new = RefusalOpens f.cause old new
