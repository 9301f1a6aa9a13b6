-- The cause of a configuration's fault: the one of its name.
use Rattle.values.specs.declared.causes.Cause.{Cause}
use Rattle.values.specs.declared.causes.Cause.TheVariants as cause
use Rattle.view_config.specs.declared.faults.ConfigFault.{ConfigFault}
use Rattle.view_config.specs.declared.faults.ConfigFault.TheVariants as fault

abbrev pub cause_of : ConfigFault → Cause
cause_of fault.NotToml = cause.NotToml
cause_of fault.UnknownName = cause.UnknownName
cause_of fault.DuplicateColumn = cause.DuplicateColumn
cause_of fault.TypeText = cause.TypeText
cause_of fault.ConstantType = cause.ConstantType
cause_of fault.SumType = cause.SumType
cause_of fault.OrderType = cause.OrderType
cause_of fault.OverLimit = cause.OverLimit
cause_of fault.Shape = cause.Shape
cause_of fault.DictType = cause.DictType
cause_of fault.Memory = cause.Memory
