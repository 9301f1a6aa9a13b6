-- How the keys of a batch are numbered, or why they aren't.
use Rattle.std.specs.Prelude.{◌≡◌, ℕ, Bool, true, false, ◌||◌, IsSome, List, [], ◌∷◌, ◌++◌, drop, get_or, map}
use Rattle.values.specs.Datum.{Datum, is_null, null}
use Rattle.values.specs.Keys.{datum_of_key, key_of}
use Rattle.values.specs.Layouts.{Holds}
use Rattle.values.specs.Rose.{Rose}
use Rattle.values.specs.declared.key.Key.{Key}
use Rattle.values.specs.declared.layout.Layout.{Layout}
use Rattle.view_lang.specs.Causes.{any_among, has_null, has_repeated}
use Rattle.view_lang.specs.declared.unfit.Unfit.TheVariants as unfit
use Rattle.row_keys.specs.declared.faults.EditFault.{EditFault}
use Rattle.row_keys.specs.declared.faults.EditFault.TheVariants as fault
use Rattle.row_keys.specs.Numbers.{IsAt, IsUnused, Numbered, numbered}
use Rattle.row_keys.specs.Stored.{live_keys}

-- what these layouts hold can be a key
abbrev pub HoldsKeys : Rose Layout → Type 0
HoldsKeys t = (d : Datum) → Holds t d → IsSome (key_of d)

abbrev pub fresh : Key → Numbered
fresh k = numbered k true

-- A row with the key of cell i is added at the end.
pub record PushesKey (cells : List Datum) (i : ℕ) (old new : List Numbered) : Type 0 where
  pub key : Key
  pub is : datum_of_key key ≡ get_or cells i null
  pub given : is_null (get_or cells i null) ≡ false
  pub unused : IsUnused old key
  pub pushed : new ≡ old ++ fresh key ∷ []

-- It can't be: a key from there on is null, or else this one is a live row's.
abbrev pub RefusesKey : List Datum → ℕ → List Numbered → EditFault → Type 0
RefusesKey cells i old (fault.Unfit unfit.NullKey) = has_null (drop i cells) ≡ true
RefusesKey cells i old (fault.Unfit unfit.DuplicateKey) =
    (has_null (drop i cells) ≡ false) × (key : Key) × (datum_of_key key ≡ get_or cells i null) × (n : ℕ)
    × IsAt old n key true
RefusesKey cells i old fault.Memory = Unit {0}
RefusesKey cells i old _ = ⊥

-- why a live row's key is refused, by whether it or a later one is null
abbrev pub used_key : Bool → EditFault
used_key true = fault.Unfit unfit.NullKey
used_key false = fault.Unfit unfit.DuplicateKey

-- Rows with all these keys are added at the end.
pub record PushesKeys (cells : List Datum) (old new : List Numbered) : Type 0 where
  pub keys : List Key
  pub are : map datum_of_key keys ≡ cells
  pub given : has_null cells ≡ false
  pub single : has_repeated cells ≡ false
  pub unused : any_among cells (live_keys old) ≡ false
  pub pushed : new ≡ old ++ map fresh keys

abbrev pub RefusesKeys : List Datum → List Numbered → EditFault → Type 0
RefusesKeys cells old (fault.Unfit unfit.NullKey) = has_null cells ≡ true
RefusesKeys cells old (fault.Unfit unfit.DuplicateKey) =
    (has_null cells ≡ false) × ((has_repeated cells || any_among cells (live_keys old)) ≡ true)
RefusesKeys cells old fault.Memory = Unit {0}
RefusesKeys cells old _ = ⊥

-- Keys that can be those of rows, in a table that has no others.
abbrev pub StandAlone : List Datum → Type 0
StandAlone cells = (rows : List Numbered) × PushesKeys cells [] rows
