-- The truths of a comparison of many cells with a constant.
use Rattle.std.specs.Prelude.{ℕ, ℤ, pos, negsuc, Bool, if◌then◌else◌, List, None, Some, get_or, length, map}
use Rattle.std.specs.List.{range_with_len}
use Rattle.bitmaps.specs.Truths.{Truth}
use Rattle.values.specs.Datum.{Datum, null, is_null as is_null_datum}
use Rattle.values.specs.Layouts.{bytes_in}
use Rattle.values.specs.declared.layout.IntWidth.{IntWidth}
use Rattle.array_layout.specs.Buffers.{is_null, number_at}
use Rattle.view_lang.specs.Truth.{compared}
use Rattle.view_lang.specs.declared.filter.Comparison.{Comparison}

abbrev pub compared_with : Comparison → Datum → List Datum → List Truth
compared_with c k ds = map (λ d. compared c d k) ds

-- the cells of one column compared with those of another, row by row
unfoldable pub columns_compared : Comparison → List Datum → List Datum → List Truth
columns_compared c xs ys =
    map (λ i. compared c (get_or xs i null) (get_or ys i null)) (range_with_len 0 (length xs))

-- whether each cell is null
unfoldable pub nulls_in : List Datum → List Truth
nulls_in ds = map (λ i. Some (is_null_datum (get_or ds i null))) (range_with_len 0 (length ds))

-- the same truth n times
unfoldable pub all_alike : Bool → ℕ → List Truth
all_alike b n = map (λ i. Some b) (range_with_len 0 n)

-- the truth of the value with this index; unknown where there is none
abbrev pub indexed_truth : List Truth → ℤ → Truth
indexed_truth ts (pos n) = get_or ts n None
indexed_truth ts (negsuc n) = None

-- the truth of slot i of an array of indices: that of its value, and unknown where it is null
unfoldable pub slot_truth : List ℕ → List ℕ → IntWidth → Bool → List Truth → ℕ → Truth
slot_truth bits indices w s ts i =
    if is_null bits i then None else indexed_truth ts (number_at s (bytes_in w) indices i)
