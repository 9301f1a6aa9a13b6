-- Whole numbers of 64 bits with their counts, as those of keys.
use Rattle.std.specs.Int.{w64}
use Rattle.std.specs.List.{All}
use Rattle.std.specs.Map.{keys_of, values_of}
use Rattle.std.specs.Prelude.{ℕ, ℤ, ◌<◌, FitsSigned, List, map}
use Rattle.values.specs.declared.key.Key.{Key}
use Rattle.values.specs.declared.key.Key.TheVariants as key

abbrev pub numbered_entry : ℤ × ℕ → Key × ℕ
numbered_entry e = (key.Int e.0, e.1)

-- the entries of the keys of these numbers
abbrev pub numbered : List (ℤ × ℕ) → List (Key × ℕ)
numbered es = map numbered_entry es

-- The key is a whole number of 64 bits.
abbrev pub IsNumber : Key → Type 0
IsNumber (key.Int n) = FitsSigned w64 n
IsNumber k = ⊥

-- Each key is a whole number of 64 bits, and none is there 0 times.
pub record AreNumbers (es : List (Key × ℕ)) : Type 0 where
  pub numbers : All IsNumber (keys_of es)
  pub present : All (λ n. 0 < n) (values_of es)
