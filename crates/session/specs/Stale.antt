-- When views may become stale.
use Rattle.std.specs.Prelude.{◌≡◌, Bool, List, Result, Ok, Err}
use Rattle.values.specs.declared.causes.Cause.{Cause}
use Rattle.values.specs.declared.causes.Cause.TheVariants as cause
use Rattle.session.specs.declared.calls.Fault.{Fault}

abbrev pub StaleBy : Cause → List Bool → List Bool → Type 0
StaleBy cause.Memory old new = Unit {0}
StaleBy _ old new = new ≡ old

-- Which views are stale changes only where memory is refused.
abbrev pub StaleByMemory : {X : Type 0} → List Bool → Result X Fault → List Bool → Type 0
StaleByMemory old (Ok x) new = new ≡ old
StaleByMemory old (Err f) new = StaleBy f.cause old new
