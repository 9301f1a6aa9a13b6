-- Keys that are whole numbers of 64 bits, stored as these, after null.
use Rattle.std.specs.Int.{w64}
use Rattle.std.specs.List.{All}
use Rattle.std.specs.Prelude.{ℤ, FitsSigned, List, ◌∷◌, map}
use Rattle.values.specs.declared.key.Key.{Key}
use Rattle.values.specs.declared.key.Key.TheVariants as key
use Rattle.row_keys.specs.KeyTable.{AreApart}

-- The key is a whole number of 64 bits.
abbrev pub IsNumber : Key → Type 0
IsNumber (key.Int n) = FitsSigned w64 n
IsNumber k = ⊥

-- null, and after it the keys of these numbers
abbrev pub null_and : List ℤ → List Key
null_and ns = key.Null ∷ map (λ n. key.Int n) ns

-- They are distinct numbers of 64 bits.
pub record AreNumberKeys (ns : List ℤ) : Type 0 where
  pub fit : All (λ n. FitsSigned w64 n) ns
  pub apart : AreApart (null_and ns)
