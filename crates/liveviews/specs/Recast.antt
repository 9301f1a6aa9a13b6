-- What `recast` answers, and what it puts.
use Rattle.std.specs.Prelude.{◌≡◌, ◌⊎◌, ℕ, List, Result, Ok, Err}
use Rattle.values.specs.Datum.{Datum}
use Rattle.values.specs.Rose.{Rose}
use Rattle.values.specs.Logical.{NamedType}
use Rattle.values.specs.declared.causes.Cause.{Cause}
use Rattle.values.specs.declared.causes.Cause.TheVariants as cause
use Rattle.schema_meta.specs.Story.{Story, story_of}
use Rattle.schema_meta.specs.Means.{Means}
use Rattle.stream_writer.specs.Sinks.{Sunk, Writes}
use Rattle.stream_writer.specs.Stream.{canon}
use Rattle.stream_writer.specs.declared.faults.WriteFault.{WriteFault}
use Rattle.stream_writer.specs.declared.faults.WriteFault.TheVariants as write
use Rattle.liveviews.specs.Steps.{Refuses}
use Rattle.liveviews.specs.declared.recasting.whole.RecastFault.{RecastFault}

-- The stream means a table, this is the answer of writing the table's canonical stream, and that stream means the table
-- too.
pub record WritesTable (old new : Sunk) (answer : Result ℕ WriteFault) (s : Story) : Type 0 where
  pub fields : List (Rose NamedType)
  pub rows : List (List Datum)
  pub means : Means s fields rows
  pub writes : Writes old new answer (canon fields rows)
  pub back : Means (story_of (canon fields rows)) fields rows

-- nothing was put
pub record IsUntouched (old new : Sunk) (written : ℕ) : Type 0 where
  pub same : new ≡ old
  pub none : written ≡ 0

-- a table that was not written whole
abbrev pub fault_of : WriteFault → RecastFault
fault_of (write.Memory n) = record { cause = cause.Memory; written = n }
fault_of (write.Device n) = record { cause = cause.Device; written = n }

abbrev pub Stops : Sunk → Sunk → Cause → ℕ → Story → Type 0
Stops old new cause.Memory written s = IsUntouched old new written ⊎ WritesTable old new (Err (write.Memory written)) s
Stops old new cause.Device written s = WritesTable old new (Err (write.Device written)) s
Stops old new c written s = IsUntouched old new written × Refuses s c

abbrev pub Recasts : Sunk → Sunk → Result ℕ RecastFault → Story → Type 0
Recasts old new (Ok n) s = WritesTable old new (Ok n) s
Recasts old new (Err f) s = Stops old new f.cause f.written s
