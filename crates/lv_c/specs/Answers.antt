-- The answers of calls as C reads them: a cause of 0 where a call was done, and otherwise the number of its cause.
use Rattle.std.specs.Prelude.{ℕ, Option, None, Some, Result, Ok, Err}
use Rattle.values.specs.Causes.{number_of}
use Rattle.values.specs.declared.causes.Cause.{Cause}
use Rattle.values.specs.declared.causes.Cause.TheVariants as cause
use Rattle.stream_writer.specs.declared.faults.WriteFault.TheVariants as write_fault
use Rattle.session.specs.declared.calls.Event.{Event}
use Rattle.session.specs.declared.calls.Event.TheVariants as event
use Rattle.session.specs.declared.calls.Fault.{Fault}
use Rattle.session.specs.declared.calls.Pushed.{Pushed}
use Rattle.session.specs.declared.calls.ViewFault.{ViewFault}
use Rattle.session.specs.declared.calls.ViewFault.TheVariants as view_fault
use Rattle.liveviews.specs.declared.recasting.whole.RecastFault.{RecastFault}
use Rattle.lv_c.specs.declared.answers.LvPushed.{LvPushed}
use Rattle.lv_c.specs.declared.answers.LvWritten.{LvWritten}

-- the cause of a call whose handle isn't open, and of `lv_open` where it is
abbrev pub not_open : ℕ
not_open = 255

abbrev pub event_number : Option Event → ℕ
event_number None = 0
event_number (Some event.Schema) = 1
event_number (Some event.Dictionary) = 2
event_number (Some event.Batch) = 3
event_number (Some event.End) = 4

abbrev pub push_answer : Result Pushed Fault → LvPushed
push_answer (Ok p) = record { used = p.used; cause = 0; event = event_number p.event }
push_answer (Err f) = record { used = f.used; cause = number_of f.cause; event = 0 }

abbrev pub end_answer : Result (Unit {0}) Fault → ℕ
end_answer (Ok u) = 0
end_answer (Err f) = number_of f.cause

-- Streams are written to memory alone: where its sink fails, memory was refused.
abbrev pub written_cause : Cause → Cause
written_cause cause.Device = cause.Memory
written_cause c = c

-- a view: as many bytes as were written, of the whole stream or of a prefix of it
abbrev pub view_answer : Result ℕ ViewFault → LvWritten
view_answer (Ok n) = record { len = n; cause = 0 }
view_answer (Err view_fault.UnknownView) = record { len = 0; cause = number_of cause.UnknownView }
view_answer (Err (view_fault.Write (write_fault.Memory n))) = record { len = n; cause = number_of cause.Memory }
view_answer (Err (view_fault.Write (write_fault.Device n))) = record { len = n; cause = number_of cause.Memory }

-- the canonical stream of another: the length of the whole, and none where it was refused
abbrev pub recast_answer : Result ℕ RecastFault → LvWritten
recast_answer (Ok n) = record { len = n; cause = 0 }
recast_answer (Err f) = record { len = 0; cause = number_of (written_cause f.cause) }
