-- A call that is refused.
use Rattle.values.specs.declared.causes.Cause.{Cause}
use Rattle.session.specs.declared.calls.Fault.{Fault}

-- nothing was consumed
abbrev pub refused : Cause → Fault
refused c = record { cause = c; used = 0 }
