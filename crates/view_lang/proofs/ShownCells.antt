-- The cells of rows that are read where they lie.
use Rattle.std.proofs.Common.{◌≡◌, ℕ, List, ◌<◌, ◌≤◌, length, get_or, refl, ap, sym, ◌∙◌}
use Rattle.std.specs.Prelude.{None, slice_get}
use Rattle.std.specs.Option.{option_map, unwrap_or}
use Rattle.std.proofs.lemmas.Option.{
  get_or_from_slice_get,
  slice_get-map,
  slice_get_past,
  slice_get_read,
  unwrap_or-slice_get,
}
use Rattle.values.specs.CellViews.{shallow}
use Rattle.values.specs.Datum.{Datum, null}
use Rattle.values.proofs.ShallowLemmas.{is_null-shallow, datum_cmp-shallow}
use Rattle.view_lang.specs.Cells.{cell_at}
use Rattle.view_lang.specs.Outputs.{Output}
use Rattle.view_lang.specs.Truth.{compared}
use Rattle.view_lang.specs.declared.filter.Comparison.{Comparison}
use Rattle.view_lang.specs.Views.{output_cell, shown_row}

pub shown-there : (outputs : List Output) (row : List Datum) (k : ℕ) (o : Output) → o ≡ get_or outputs k o
    → k < length outputs → cell_at (shown_row outputs row) k ≡ cell_at row o.column
shown-there outputs row k o is below =
    get_or_from_slice_get (shown_row outputs row) k (output_cell row o) null
    (slice_get-map (output_cell row) outputs k
    ∙ ap (option_map (output_cell row)) (slice_get_read outputs (length outputs) k o refl below is))

past : (cells : List Datum) (k : ℕ) → slice_get cells k ≡ None → cell_at cells k ≡ null
past cells k is = sym (unwrap_or-slice_get cells k null) ∙ ap (λ o. unwrap_or o null) is

pub shown-past : (outputs : List Output) (row : List Datum) (k : ℕ) → length outputs ≤ k
    → cell_at (shown_row outputs row) k ≡ null
shown-past outputs row k all =
    past (shown_row outputs row) k
    (slice_get-map (output_cell row) outputs k
    ∙ ap (option_map (output_cell row)) (slice_get_past outputs k all))

pub ruleset shown_cells = (shown-there, shown-past)

-- a comparison reads nothing inside a list or a struct
pub compared-shallow : (c : Comparison) (a b : Datum) → compared c (shallow a) (shallow b) ≡ compared c a b
compared-shallow c a b = rw (is_null-shallow a, is_null-shallow b, datum_cmp-shallow a b) refl

pub ruleset compared_cells = (is_null-shallow, compared-shallow)
