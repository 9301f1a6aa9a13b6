-- A cause of a part is a cause of the whole.
use Rattle.values.proofs.Readings.{both_left, both_right, bind_left, stands_mapped}
use Rattle.values.specs.Reading.{◌>>=◌, both, mapped, FailsWith}
use Rattle.view_config.specs.Reading.{Reading, Fails}
use Rattle.view_config.specs.declared.faults.ConfigFault.{ConfigFault}
use Rattle.view_config.specs.declared.faults.ConfigFault.TheVariants as fault

pub fails-stands : {X : Type 0} (c : ConfigFault) (m : Reading X) → FailsWith m c → Fails c m
fails-stands fault.Memory m h = tt
fails-stands _ m h = h

pub fails_along :
    {X Y : Type 0} (c : ConfigFault) (m : Reading X) (w : Reading Y) → ((d : ConfigFault) → FailsWith m d → FailsWith w d)
    → Fails c m
    → Fails c w
fails_along fault.Memory m w f h = tt
fails_along c m w f h = f c h

pub fails_left :
    {X Y Z : Type 0} (g : X → Y → Z) (a : Reading X) (b : Reading Y) (c : ConfigFault) → Fails c a
    → Fails c (both g a b)
fails_left g a b c h = fails_along c a (both g a b) (λ d. both_left g a b d) h

pub fails_right :
    {X Y Z : Type 0} (g : X → Y → Z) (a : Reading X) (b : Reading Y) (c : ConfigFault) → Fails c b
    → Fails c (both g a b)
fails_right g a b c h = fails_along c b (both g a b) (λ d. both_right g a b d) h

pub fails_first :
    {X Y : Type 0} (m : Reading X) (f : X → Reading Y) (c : ConfigFault) → Fails c m → Fails c (m >>= f)
fails_first m f c h = fails_along c m (m >>= f) (λ d. bind_left m f d) h

pub fails_mapped : {X Y : Type 0} (f : X → Y) (m : Reading X) (c : ConfigFault) → Fails c m → Fails c (mapped f m)
fails_mapped f m c h = fails_along c m (mapped f m) (λ d. stands_mapped f m d) h

pub ruleset causes = (bind_left, both_left, both_right, stands_mapped)

pub ruleset failing = (causes, fails-stands, fails_left, fails_right, fails_first, fails_mapped)
