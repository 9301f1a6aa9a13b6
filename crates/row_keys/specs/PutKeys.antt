-- How the keys of a batch are put: each row replaces the live row with its key.
use Rattle.std.specs.Prelude.{◌≡◌, ◌⊎◌, ℕ, ◌<◌, ◌≤◌, true, false, List, [], ◌∷◌, ◌++◌, drop, get_or}
use Rattle.values.specs.Datum.{Datum, is_null, null}
use Rattle.values.specs.Keys.{datum_of_key}
use Rattle.values.specs.declared.key.Key.{Key}
use Rattle.view_lang.specs.Causes.{has_null}
use Rattle.view_lang.specs.declared.unfit.Unfit.TheVariants as unfit
use Rattle.row_keys.specs.declared.faults.EditFault.{EditFault}
use Rattle.row_keys.specs.declared.faults.EditFault.TheVariants as fault
use Rattle.row_keys.specs.Found.{FindsAll, known_keys}
use Rattle.row_keys.specs.KeyColumns.{PushesKeys, fresh}
use Rattle.row_keys.specs.Numbers.{AreDistinct, AreLive, IsAt, IsUnused, Numbered, turned, turned_off}

-- A row with the key of cell i is added at the end. No live row has the key, or one below `first` has it, which is
-- retracted.
pub record PutsKey (cells : List Datum) (i first : ℕ) (old : List Numbered) (before : List ℕ) (new : List Numbered)
    (after : List ℕ) : Type 0 where
  pub key : Key
  pub is : datum_of_key key ≡ get_or cells i null
  pub given : is_null (get_or cells i null) ≡ false
  pub distinct : AreDistinct old
  pub put : (IsUnused old key × (new ≡ old ++ fresh key ∷ []) × (after ≡ before))
      ⊎ ((n : ℕ) × (n < first) × IsAt old n key true × (new ≡ turned false old n ++ fresh key ∷ [])
      × (after ≡ before ++ n ∷ []))

-- It can't be: a key from there on is null, or else a live row from `first` on has this one.
abbrev pub RefusesPut : List Datum → ℕ → ℕ → List Numbered → EditFault → Type 0
RefusesPut cells i first old (fault.Unfit unfit.NullKey) = has_null (drop i cells) ≡ true
RefusesPut cells i first old (fault.Unfit unfit.DuplicateKey) =
    (has_null (drop i cells) ≡ false) × (key : Key) × (datum_of_key key ≡ get_or cells i null) × (n : ℕ)
    × (first ≤ n) × IsAt old n key true
RefusesPut cells i first old fault.Memory = Unit {0}
RefusesPut cells i first old _ = ⊥

-- Rows with all these keys are added at the end, once the live rows with them are retracted, which have these numbers.
pub record PutsKeys (cells : List Datum) (old : List Numbered) (replaced : List ℕ) (new : List Numbered) : Type 0 where
  pub found : FindsAll (known_keys cells old) old replaced
  pub live : AreLive replaced old
  pub pushed : PushesKeys cells (turned_off replaced old) new
