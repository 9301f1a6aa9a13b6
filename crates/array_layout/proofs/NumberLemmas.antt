-- Numbers in two's complement.
use Rattle.std.proofs.Common.{◌≡◌, ◌*◌, ◌-◌, ◌^◌, refl}
use Rattle.values.specs.declared.layout.IntWidth.{IntWidth}
use Rattle.values.specs.declared.layout.IntWidth.TheVariants as int
use Rattle.values.specs.Layouts.{bytes_in}

pub twice_sign : (w : IntWidth) → 2 * 2 ^ (8 * bytes_in w - 1) ≡ 2 ^ (8 * bytes_in w)
twice_sign int.Bits8 = refl
twice_sign int.Bits16 = refl
twice_sign int.Bits32 = refl
twice_sign int.Bits64 = refl

pub ruleset signs = (twice_sign)
