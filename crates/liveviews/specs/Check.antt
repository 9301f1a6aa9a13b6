-- What `check` answers for a file.
use Rattle.std.specs.Prelude.{◌≡◌, ◌⊎◌, ℕ, List, Option, None, Some, Ok, length}
use Rattle.std.specs.Str.{IsUtf8}
use Rattle.values.specs.declared.causes.Cause.{Cause}
use Rattle.values.specs.declared.causes.Cause.TheVariants as cause
use Rattle.view_lang.specs.Config.{Config}
use Rattle.view_config.specs.Config.{text_means}
use Rattle.view_config.specs.ConfigCauses.{cause_of}
use Rattle.view_config.specs.Reading.{Fails}
use Rattle.view_config.specs.declared.faults.ConfigFault.{ConfigFault}

-- some bytes mean a configuration
abbrev pub MeansConfig : List ℕ → Config → Type 0
MeansConfig bytes c = text_means bytes ≡ Ok c

-- A cause for which bytes mean none: they aren't UTF-8, the text has this fault, or memory was refused.
abbrev pub RefusesConfig : List ℕ → Cause → Type 0
RefusesConfig bytes c = ((c ≡ cause.NotToml) × ¬ (IsUtf8 bytes))
    ⊎ ((f : ConfigFault) × (c ≡ cause_of f) × Fails f (text_means bytes))

-- A file has a configuration with this many feeds and views, where it is known what it holds.
abbrev pub ChecksFile : Option (List ℕ) → ℕ → ℕ → Type 0
ChecksFile None feeds views = Unit {0}
ChecksFile (Some bytes) feeds views =
    (c : Config) × MeansConfig bytes c × (feeds ≡ length c.feeds) × (views ≡ length c.views)

-- a cause for which a file has none
abbrev pub RefusesFile : Option (List ℕ) → Cause → Type 0
RefusesFile None c = Unit {0}
RefusesFile (Some bytes) c = RefusesConfig bytes c
