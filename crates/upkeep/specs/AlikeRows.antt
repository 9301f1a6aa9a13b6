-- Joined rows for which a view stores the same.
use Rattle.std.specs.Prelude.{ℕ, ◌&&◌, Bool, true, false, List, Option, None, Some, not}
use Rattle.std.specs.List.{list_any}
use Rattle.std.specs.Ordering.{is_eq}
use Rattle.values.specs.Datum.{Datum, list, structure}
use Rattle.values.specs.Order.{datum_cmp}
use Rattle.view_lang.specs.Cells.{cell_at}
use Rattle.view_lang.specs.Config.{View}
use Rattle.view_lang.specs.Outputs.{Outputs, columns, groups}
use Rattle.view_lang.specs.Views.{shown_row}
use Rattle.view_lang.specs.declared.view.OrderBy.{OrderBy}
use Rattle.upkeep.specs.declared.view_state.Materialized.{Materialized}
use Rattle.upkeep.specs.declared.view_state.Materialized.TheVariants as kept

abbrev pub is_nested : Datum → Bool
is_nested (list es) = true
is_nested (structure es) = true
is_nested d = false

-- Whether two cells are known to have the same value: they compare as equal. Lists and structs aren't compared.
abbrev pub are_same : Datum → Datum → Bool
are_same a b = not (is_nested a) && is_eq (datum_cmp a b)

-- whether two rows differ in a column, or may differ
abbrev pub differ_in : List Datum → List Datum → ℕ → Bool
differ_in a b column = not (are_same (cell_at a column) (cell_at b column))

-- Whether a view stores the same for two joined rows: they don't differ in a column by which a plain view orders its
-- rows, or in one by which groups are made, or that groups accumulate.
abbrev pub are_materialized_alike_by : Outputs → List OrderBy → Materialized → List Datum → List Datum → Bool
are_materialized_alike_by (columns outputs) order (kept.Order o) a b =
    not (list_any (λ by. differ_in (shown_row outputs a) (shown_row outputs b) by.column) order)
are_materialized_alike_by (groups by outputs having) order (kept.Groups g) a b =
    not (list_any (differ_in a b) by) && not (list_any (λ c. differ_in a b c.column) g.groups.columns)
are_materialized_alike_by _ order k a b = false

abbrev pub are_materialized_alike : View → Materialized → List Datum → List Datum → Bool
are_materialized_alike v k a b = are_materialized_alike_by v.outputs v.order k a b

-- The same where either row may be missing: for two that are, nothing is stored.
abbrev pub are_reprojected_alike : View → Materialized → Option (List Datum) → Option (List Datum) → Bool
are_reprojected_alike v k None None = true
are_reprojected_alike v k None (Some b) = false
are_reprojected_alike v k (Some a) None = false
are_reprojected_alike v k (Some a) (Some b) = are_materialized_alike v k a b
