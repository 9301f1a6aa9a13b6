-- Changes of rows as changes of their images.
use Rattle.std.specs.Prelude.{◌≡◌, ℕ, List, [], ◌∷◌, map, Option, None, Some}
use Rattle.std.specs.List.{filter_map}
use Rattle.std.specs.List.Sorted.{IsStrictlySortedBy}
use Rattle.std.specs.Map.{keys_of, values_of}
use Rattle.std.specs.Option.{option_and_then}
use Rattle.std.specs.Ordering.{nat_cmp}
use Rattle.values.specs.Datum.{Datum}
use Rattle.view_lang.specs.Shifts.{Fits, NumberedRows, Shift, patched, row_at, shift}

abbrev pub image_by : ℕ → Option (List Datum) → NumberedRows → NumberedRows
image_by n None rows = rows
image_by n (Some row) rows = (n, row) ∷ rows

-- the images of the rows, with the rows' numbers; some rows have none
abbrev pub image : (List Datum → Option (List Datum)) → NumberedRows → NumberedRows
image make [] = []
image make (e ∷ es) = image_by e.0 (make e.1) (image make es)

abbrev pub shift_image : (List Datum → Option (List Datum)) → Shift → Shift
shift_image make s = shift s.number (option_and_then make s.before) (option_and_then make s.after)

-- A change that fits the rows fits their images,
abbrev pub ImageFits : Type 0
ImageFits =
    (make : List Datum → Option (List Datum)) (rows : NumberedRows) (change : List Shift) → Fits rows change
    → Fits (image make rows) (map (shift_image make) change)

-- and leads to the images of the rows after it.
abbrev pub ImagePatched : Type 0
ImagePatched =
    (make : List Datum → Option (List Datum)) (rows : NumberedRows) (change : List Shift) → Fits rows change
    → image make (patched rows change) ≡ patched (image make rows) (map (shift_image make) change)

-- In order, they are the images of the rows in order.
abbrev pub ImageValues : Type 0
ImageValues =
    (make : List Datum → Option (List Datum)) (rows : NumberedRows)
    → values_of (image make rows) ≡ filter_map make (values_of rows)

-- Each number has the image of its row.
abbrev pub ImageAt : Type 0
ImageAt =
    (make : List Datum → Option (List Datum)) (rows : NumberedRows) (n : ℕ)
    → IsStrictlySortedBy nat_cmp (keys_of rows) → row_at n (image make rows) ≡ option_and_then make (row_at n rows)
