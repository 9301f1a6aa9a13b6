-- The cells of a stored row where they lie.
use Rattle.std.proofs.Common.{◌≡◌, ℕ, suc, zero, List, [], ◌∷◌, ◌<◌, ◌≤◌, arith, length, get_or, Some, refl, ap, slice_get, sym, ◌∙◌}
use Rattle.std.specs.Option.{option_map}
use Rattle.std.proofs.lemmas.Option.{get_or_from_slice_get, slice_get-map, slice_get_read}
use Rattle.values.specs.Datum.{Datum, null}
use Rattle.arrays.specs.Checked.{CheckedColumn}
use Rattle.schema_meta.specs.Rows.{row_at}
use Rattle.view_lang.specs.Cells.{cell_at}
use Rattle.row_keys.specs.Batches.{cells_in}

-- without a column there is no cell
pub cell_past : (columns : List CheckedColumn) (k i : ℕ) → length columns ≤ k
    → cell_at (row_at (cells_in columns) i) k ≡ null
cell_past [] k i past = refl
cell_past (c ∷ cs) zero i past = absurd (omega (arith, past))
cell_past (c ∷ cs) (suc k) i past = cell_past cs k i (omega (arith, past))

pub cell_there : (columns : List CheckedColumn) (k i : ℕ) (c : CheckedColumn) → c ≡ get_or columns k c → k < length columns
    → cell_at (row_at (cells_in columns) i) k ≡ get_or c.cells i null
cell_there columns k i c is below =
    let found = slice_get_read columns (length columns) k c refl below is in
    get_or_from_slice_get (row_at (cells_in columns) i) k (get_or c.cells i null) null
    (slice_get-map (λ xs. get_or xs i null) (cells_in columns) k
    ∙ ap (option_map (λ xs. get_or xs i null)) (slice_get-map (λ (x : CheckedColumn). x.cells) columns k
    ∙ ap (option_map (λ (x : CheckedColumn). x.cells)) found))

pub cell_copied :
    (columns : List CheckedColumn) (k i : ℕ) (c : CheckedColumn) (d : Datum) → c ≡ get_or columns k c → k < length columns
    → slice_get c.cells i ≡ Some d → d ≡ cell_at (row_at (cells_in columns) i) k
cell_copied columns k i c d is below there =
    sym (cell_there columns k i c is below ∙ get_or_from_slice_get c.cells i d null there)

pub ruleset cells_in_place = (cell_past, cell_there, cell_copied)
