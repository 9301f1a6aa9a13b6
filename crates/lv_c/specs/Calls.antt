-- Calls of a handle: what each answers, and the contents of the handle then. Where there are none, a call says so, and
-- nothing changes.
use Rattle.std.specs.Prelude.{◌≡◌, ◌⊎◌, ◌^◌, ◌-◌, ℕ, List, [], Option, None, Some, Result, IsErr, OnOk, count_by, length, min}
use Rattle.values.specs.Causes.{number_of}
use Rattle.values.specs.declared.causes.Cause.{Cause}
use Rattle.values.specs.declared.causes.Cause.TheVariants as cause
use Rattle.schema_meta.specs.Story.{story_of}
use Rattle.stream_writer.specs.Sinks.{sunk_of}
use Rattle.view_config.specs.Config.{text_means}
use Rattle.view_lang.specs.Config.{tables_of}
use Rattle.view_lang.specs.World.{contents_at, world}
use Rattle.upkeep.specs.LiveParts.{store_at}
use Rattle.session.specs.Shows.{Shows, config_of}
use Rattle.session.specs.Steps.{State}
use Rattle.session.specs.declared.calls.Fault.{Fault}
use Rattle.session.specs.declared.calls.Pushed.{Pushed}
use Rattle.session.specs.declared.calls.ViewFault.{ViewFault}
use Rattle.liveviews.specs.Recast.{Recasts}
use Rattle.liveviews.specs.Steps.{IsConsumed}
use Rattle.liveviews.specs.declared.recasting.whole.RecastFault.{RecastFault}
use Rattle.lv_c.specs.declared.answers.LvPushed.{LvPushed}
use Rattle.lv_c.specs.declared.answers.LvWritten.{LvWritten}
use Rattle.lv_c.specs.declared.held.Held.{Held}
use Rattle.lv_c.specs.Answers.{end_answer, not_open, push_answer, recast_answer, view_answer}
use Rattle.lv_c.specs.Behind.{Finishes, Opens, Pushes, RefusesConfig, Undoes, WritesLast, last_stream}
use Rattle.lv_c.specs.Copies.{CopiesIf, CopiesTo}

-- A session is opened behind a handle that isn't open, or the bytes are refused. One that is open stays as it is.
abbrev pub OpenCall : Option Held → List ℕ → ℕ → Option Held → Type 0
OpenCall None bytes result new =
    ((result ≡ 0) × ((h : Held) × (new ≡ Some h) × Opens bytes h))
    ⊎ ((c : Cause) × (result ≡ number_of c) × RefusesConfig bytes c × (new ≡ None))
OpenCall (Some old) bytes result new = (result ≡ not_open) × (new ≡ Some old)

abbrev pub unopened_push : LvPushed
unopened_push = record { used = 0; cause = not_open; event = 0 }

abbrev pub PushCall : Option Held → List ℕ → List ℕ → LvPushed → Option Held → Type 0
PushCall None feed piece result new = (result ≡ unopened_push) × (new ≡ None)
PushCall (Some old) feed piece result new =
    (h : Held) × (new ≡ Some h) × (answer : Result Pushed Fault) × (result ≡ push_answer answer)
    × Pushes old feed piece answer h

abbrev pub FinishCall : Option Held → List ℕ → ℕ → Option Held → Type 0
FinishCall None feed result new = (result ≡ not_open) × (new ≡ None)
FinishCall (Some old) feed result new =
    (h : Held) × (new ≡ Some h) × (answer : Result (Unit {0}) Fault) × (result ≡ end_answer answer)
    × Finishes old feed answer h

abbrev pub UndoCall : Option Held → ℕ → Option Held → Type 0
UndoCall None result new = (result ≡ not_open) × (new ≡ None)
UndoCall (Some old) result new =
    (h : Held) × (new ≡ Some h) × (answer : Result (Unit {0}) Fault) × (result ≡ end_answer answer)
    × Undoes old answer h

abbrev pub unopened_write : LvWritten
unopened_write = record { len = 0; cause = not_open }

abbrev pub WriteCall : Option Held → List ℕ → LvWritten → Option Held → Type 0
WriteCall None view result new = (result ≡ unopened_write) × (new ≡ None)
WriteCall (Some old) view result new =
    (h : Held) × (new ≡ Some h) × (answer : Result ℕ ViewFault) × (result ≡ view_answer answer)
    × WritesLast old view answer h

abbrev pub CopyCall : Option Held → ℕ → List ℕ → ℕ → List ℕ → Type 0
CopyCall None from old result new = (result ≡ 0) × (new ≡ old)
CopyCall (Some h) from old result new = CopiesTo (last_stream h) from old result new

-- the number of live rows of the main table, in whatever state the session represents
abbrev pub LiveRowsCall : Option Held → ℕ → Type 0
LiveRowsCall None result = result ≡ 0
LiveRowsCall (Some h) result = (s : State) → Shows h.session s
    → result ≡ length (contents_at (world (tables_of (config_of h.session)) s.past.edits) 0).live

abbrev pub StaleCall : Option Held → ℕ → Type 0
StaleCall None result = result ≡ 0
StaleCall (Some h) result = result ≡ count_by (λ b. b) h.session.tables.stale

-- the count of opened rows, or the greatest number that C reads
abbrev pub VisitsCall : Option Held → ℕ → Type 0
VisitsCall None result = result ≡ 0
VisitsCall (Some h) result = result ≡ min (store_at h.session.tables.stores 0).visits (2 ^ 64 - 1)

-- A session is put behind a handle, or memory is refused for its box.
abbrev pub IsBoxed : Held → ℕ → Option Held → Type 0
IsBoxed h result new = ((result ≡ 0) × (new ≡ Some h)) ⊎ ((result ≡ number_of cause.Memory) × (new ≡ None))

-- A recast to memory: `kept` is what was put. On success that is the whole canonical stream, and the buffer has the
-- prefix of it that fits. Otherwise the buffer is as it was.
pub record RecastCall (input old : List ℕ) (result : LvWritten) (new : List ℕ) : Type 0 where
  pub answer : Result ℕ RecastFault
  pub kept : List ℕ
  pub failures : ℕ
  pub recasts : Recasts (sunk_of [] 0) (sunk_of kept failures) answer (story_of input)
  pub accepted : OnOk answer (IsConsumed (story_of input))
  pub told : result ≡ recast_answer answer
  pub buffer : CopiesIf answer kept old new

-- For a configuration that is accepted no part is reported, and the buffer is as it was. Otherwise the buffer has the
-- text of some part, as much of it as fits, and the answer is the length of that text, or nothing is reported for want
-- of memory.
pub record ReportsPlace (old : List ℕ) (result : ℕ) (new : List ℕ) : Type 0 where
  pub text : List ℕ
  pub len : result ≡ length text
  pub copied : ℕ
  pub buffer : CopiesTo text 0 old copied new

abbrev pub FindFaultCall : List ℕ → List ℕ → ℕ → List ℕ → Type 0
FindFaultCall bytes old result new =
    ((result ≡ 0) × (new ≡ old)) ⊎ (IsErr (text_means bytes) × ReportsPlace old result new)
