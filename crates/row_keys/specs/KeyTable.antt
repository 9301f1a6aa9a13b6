-- The keys of rows by position, each once.
use Rattle.std.specs.Prelude.{◌≡◌, ◌⊎◌, ℕ, List, [], ◌∷◌, ◌++◌, Some, length, slice_get}
use Rattle.std.specs.Coded.{Coded, coded_list}
use Rattle.values.specs.contracts.key.Key.{the_row}
use Rattle.values.specs.declared.key.Key.{Key}

abbrev pub keys_code : Coded (List Key)
keys_code = coded_list the_row.coded

abbrev pub IsNew : List Key → Key → Type 0
IsNew keys k = (p : ℕ) → slice_get keys p ≡ Some k → ⊥

-- no key is at two positions
abbrev pub AreApart : List Key → Type 0
AreApart keys = (p q : ℕ) (k : Key) → slice_get keys p ≡ Some k → slice_get keys q ≡ Some k → p ≡ q

-- The key is at position p: it was there, or is added at the end.
abbrev pub Inserts : List Key → Key → ℕ → List Key → Type 0
Inserts old k p new = ((slice_get old p ≡ Some k) × (new ≡ old))
    ⊎ ((p ≡ length old) × IsNew old k × (new ≡ old ++ k ∷ []))
