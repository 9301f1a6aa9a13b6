-- The live rows with these keys, or why one key has none.
use Rattle.std.specs.Prelude.{◌≡◌, ℕ, true, false, List, [], ◌∷◌, filter}
use Rattle.values.specs.Datum.{Datum}
use Rattle.values.specs.Keys.{datum_of_key}
use Rattle.values.specs.declared.key.Key.{Key}
use Rattle.view_lang.specs.Causes.{all_among}
use Rattle.view_lang.specs.Contents.{is_among}
use Rattle.view_lang.specs.declared.unfit.Unfit.TheVariants as unfit
use Rattle.row_keys.specs.declared.faults.EditFault.{EditFault}
use Rattle.row_keys.specs.declared.faults.EditFault.TheVariants as fault
use Rattle.row_keys.specs.Numbers.{IsAt, Numbered}
use Rattle.row_keys.specs.Stored.{live_keys}

-- the numbers of the live rows with these keys, in order
abbrev pub FindsAll : List Datum → List Numbered → List ℕ → Type 0
FindsAll [] rows [] = Unit {0}
FindsAll [] rows (n ∷ ns) = ⊥
FindsAll (d ∷ ds) rows [] = ⊥
FindsAll (d ∷ ds) rows (n ∷ ns) = ((key : Key) × (datum_of_key key ≡ d) × IsAt rows n key true) × FindsAll ds rows ns

-- those of these keys that live rows have
abbrev pub known_keys : List Datum → List Numbered → List Datum
known_keys cells rows = filter (λ d. is_among d (live_keys rows)) cells

abbrev pub MissesKey : List Datum → List Numbered → EditFault → Type 0
MissesKey cells rows (fault.Unfit unfit.UnknownKey) = all_among cells (live_keys rows) ≡ false
MissesKey cells rows fault.Memory = Unit {0}
MissesKey cells rows _ = ⊥
