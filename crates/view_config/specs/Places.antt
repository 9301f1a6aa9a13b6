-- The result of reading a part of a configuration: the part, or none where it has a fault.
use Rattle.std.specs.Prelude.{◌≡◌, Option, None, Some, Result, Ok, Err}
use Rattle.view_config.specs.declared.faults.ConfigFault.{ConfigFault}
use Rattle.view_config.specs.declared.faults.ConfigFault.TheVariants as fault

abbrev pub Finds : {X : Type 0} → Result X ConfigFault → Option X → Type 0
Finds (Ok x) found = found ≡ Some x
Finds (Err fault.Memory) found = ⊥
Finds (Err c) found = found ≡ None
