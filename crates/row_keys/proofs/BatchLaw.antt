-- The keys of a batch of one column.
use Rattle.std.proofs.Common.{◌≡◌, ℕ, zero, suc, ◌+◌, List, [], ◌∷◌, get_or, length, drop, map, ap, sym, ◌∙◌, arith}
use Rattle.std.proofs.lemmas.List.{drop_all, drop_more}
use Rattle.values.specs.Datum.{Datum, null}
use Rattle.schema_meta.specs.Rows.{rows_from}
use Rattle.view_lang.specs.Edits.{first_cell}
use Rattle.row_keys.specs.Batches.{KeysAreCells}

cells_from : (cells : List Datum) (i n : ℕ) → i + n ≡ length cells
    → map first_cell (rows_from (cells ∷ []) i n) ≡ drop i cells
unfolding rows_from
cells_from cells i zero all = sym (drop_all i cells (omega (arith, all)))
cells_from cells i (suc n) all =
    ap (λ ds. get_or cells i null ∷ ds) (cells_from cells (i + 1) n (omega (arith, all)))
    ∙ sym (drop_more cells i null (omega (arith, all)))

pub keys_are_cells : KeysAreCells
keys_are_cells cells = cells_from cells 0 (length cells) (omega arith)
