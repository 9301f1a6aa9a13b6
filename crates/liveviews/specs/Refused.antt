-- Why the rows of a batch, or of a whole stream, are refused.
use Rattle.std.specs.Prelude.{◌≡◌, ℕ, ◌+◌, ◌<◌, List, length, Any}
use Rattle.values.specs.Limits.{max_main_rows}
use Rattle.values.specs.Datum.{Datum}
use Rattle.values.specs.Reading.{FailsWith, Reading}
use Rattle.values.specs.Rose.{Roses}
use Rattle.values.specs.StreamCauses.{cause_of}
use Rattle.values.specs.declared.layout.Layout.{Layout}
use Rattle.values.specs.declared.causes.Cause.{Cause}
use Rattle.values.specs.declared.causes.Cause.TheVariants as cause
use Rattle.values.specs.declared.faults.StreamFault.{StreamFault}
use Rattle.body_writer.specs.Heavy.{IsHeavy}

-- the stream has a fault of this cause
abbrev pub HasFaultOf : {X : Type 0} → Reading X → Cause → Type 0
HasFaultOf m c = (f : StreamFault) × (cause_of f ≡ c) × FailsWith m f

-- The rows of a batch are too many with those before, or one is too heavy.
abbrev pub RefusesBatch : Roses Layout → List (List Datum) → ℕ → Cause → Type 0
RefusesBatch ls rows before cause.Memory = Unit {0}
RefusesBatch ls rows before cause.TooManyRows = max_main_rows < before + length rows
RefusesBatch ls rows before cause.CellTooHeavy = Any (IsHeavy ls) rows
RefusesBatch ls rows before c = ⊥
