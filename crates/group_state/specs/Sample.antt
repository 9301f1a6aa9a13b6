-- A change of a few rows.
use Rattle.std.specs.Prelude.{ℤ, pos, List, [], ◌∷◌, Option, None, Some}
use Rattle.values.specs.Datum.{Datum, null, whole}
use Rattle.view_lang.specs.Shifts.{Shift, shift}

abbrev pub cell_of : Option ℤ → Datum
cell_of None = null
cell_of (Some n) = whole n

abbrev pub row_of : ℤ → Option ℤ → List Datum
row_of a b = whole a ∷ cell_of b ∷ []

-- Three rows of 7 and one of 5 are inserted, of which a 7 and the 5 are deleted.
abbrev pub sample_change : List Shift
sample_change =
    shift 0 None (Some (row_of (pos 7) (Some (pos 3))))
    ∷ shift 1 None (Some (row_of (pos 7) None))
    ∷ shift 2 None (Some (row_of (pos 5) (Some (pos 4))))
    ∷ shift 3 None (Some (row_of (pos 7) (Some (pos 9))))
    ∷ shift 2 (Some (row_of (pos 5) (Some (pos 4)))) None
    ∷ shift 3 (Some (row_of (pos 7) (Some (pos 9)))) None
    ∷ []
