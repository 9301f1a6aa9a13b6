-- What a configuration means where there may be faults: a value, or a set of causes that isn't empty.
use Rattle.std.specs.Prelude.{◌≡◌, Result, Ok, Err}
use Rattle.values.specs.Reading.{FailsWith, ReadingOf}
use Rattle.view_config.specs.declared.faults.ConfigFault.{ConfigFault}
use Rattle.view_config.specs.declared.faults.ConfigFault.TheVariants as fault

abbrev pub Reading : Type 0 → Type 0
Reading X = ReadingOf ConfigFault X

-- A refusal is right: it names one of the causes, or memory was refused.
abbrev pub Fails : {X : Type 0} → ConfigFault → Reading X → Type 0
Fails fault.Memory m = Unit {0}
Fails c m = FailsWith m c

-- What a call answers that may be refused memory: `Ok` exactly where there is no cause, and then the value as contracts
-- see it; otherwise one of the causes.
abbrev pub Answers : {X Y : Type 0} → (X → Y) → Result X ConfigFault → Reading Y → Type 0
Answers view (Ok x) m = m ≡ Ok (view x)
Answers view (Err c) m = Fails c m
