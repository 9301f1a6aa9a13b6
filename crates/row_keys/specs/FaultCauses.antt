-- The cause of an edit's fault.
use Rattle.values.specs.declared.causes.Cause.{Cause}
use Rattle.values.specs.declared.causes.Cause.TheVariants as cause
use Rattle.view_lang.specs.UnfitCauses.{named as unfit_named}
use Rattle.row_keys.specs.declared.faults.EditFault.{EditFault}
use Rattle.row_keys.specs.declared.faults.EditFault.TheVariants as fault

abbrev pub named : EditFault → Cause
named (fault.Unfit u) = unfit_named u
named fault.Memory = cause.Memory
