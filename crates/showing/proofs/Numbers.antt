-- Numbers that JSON has as strings.
use Rattle.std.proofs.Common.{◌≡◌, ℕ, ℤ, List, ◌++◌, refl}
use Rattle.std.specs.Prelude.{Bool}
use Rattle.values.specs.declared.layout.IntWidth.{IntWidth}
use Rattle.values.specs.declared.col_type.ColType.{ColType}
use Rattle.values.specs.declared.col_type.ColType.TheVariants as col
use Rattle.showing.specs.Json.{json_number}
use Rattle.showing.specs.Numbers.{number_text}

pub other-number :
    (quote : List ℕ) (t : ColType) (z : ℤ) → ((w : IntWidth) (s : Bool) → t ≡ col.Int w s → ⊥)
    → json_number quote t z ≡ quote ++ (number_text t z ++ quote)
other-number quote (col.Int w s) z other = absurd (other w s refl)
other-number quote _ z other = refl
