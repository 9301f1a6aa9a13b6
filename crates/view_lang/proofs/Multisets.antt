-- Group rows depend on which rows there are, and not on their order.
use Rattle.std.proofs.Common.{◌≡◌, ℕ, List, [], ◌∷◌, map, refl, ap, ap₂, ◌∙◌}
use Rattle.std.specs.List.{AllByRecursion, dedup}
use Rattle.std.specs.List.Sorted.{IsPermutation}
use Rattle.std.proofs.lemmas.List.Sorted.{IsPermutation-map}
use Rattle.values.specs.Datum.{Datum}
use Rattle.view_lang.specs.Cells.{cell_at, cells_at}
use Rattle.view_lang.specs.RowOrder.{tuple_cmp}
use Rattle.view_lang.specs.Groups.{same_tuple, tuples_of, rows_with, group_row, group_rows}
use Rattle.view_lang.specs.Aggregates.{IsKeyCell, ComparesKeys}
use Rattle.view_lang.specs.ViewLaws.{UsesKeys, GroupsOfMultiset}
use Rattle.view_lang.specs.Outputs.{GroupOutput}
use Rattle.view_lang.proofs.Orders.{tuple_cmp_total}
use Rattle.view_lang.proofs.StableOrder.{weaker}
use Rattle.view_lang.proofs.PermutedCells.{IsPermutation-filter, all-filter, all-map, exact_tuple, sorted_same}
use Rattle.view_lang.proofs.AggregateCases.{aggregate_same}

row_same :
    (outs : List GroupOutput) (t : List Datum) (rows others : List (List Datum)) → IsPermutation rows others
    → AllByRecursion (λ row. AllByRecursion (λ o. ComparesKeys o.aggregate row) outs) rows
    → group_row outs t rows ≡ group_row outs t others
unfolding group_row
row_same [] t rows others same all = refl
row_same (out ∷ outs) t rows others same all =
    ap₂ (λ c cs. c ∷ cs)
    (aggregate_same out.aggregate t rows others same
    (weaker (λ row. AllByRecursion (λ o. ComparesKeys o.aggregate row) (out ∷ outs)) (ComparesKeys out.aggregate)
    (λ row a. a.0) rows all))
    (row_same outs t rows others same
    (weaker (λ row. AllByRecursion (λ o. ComparesKeys o.aggregate row) (out ∷ outs))
    (λ row. AllByRecursion (λ o. ComparesKeys o.aggregate row) outs) (λ row a. a.1) rows all))

tuples_same :
    (by : List ℕ) (rows others : List (List Datum)) → IsPermutation rows others
    → AllByRecursion (λ row. AllByRecursion (λ k. IsKeyCell (cell_at row k)) by) rows
    → tuples_of by rows ≡ tuples_of by others
unfolding tuples_of
tuples_same [] rows others same all = refl
tuples_same (k ∷ ks) rows others same all =
    let by : List ℕ = k ∷ ks in
    let keys = weaker (λ row. AllByRecursion (λ j. IsKeyCell (cell_at row j)) by)
    (λ row. AllByRecursion IsKeyCell (cells_at by row)) (λ row a. all-map IsKeyCell (cell_at row) by a) rows all in
    ap (dedup same_tuple)
    (sorted_same tuple_cmp tuple_cmp_total (λ t. AllByRecursion IsKeyCell t) exact_tuple (map (cells_at by) rows)
    (map (cells_at by) others)
    (IsPermutation-map (cells_at by) rows others same)
    (all-map (λ t. AllByRecursion IsKeyCell t) (cells_at by) rows keys))

pub groups-of_multiset : GroupsOfMultiset
unfolding group_rows rows_with
groups-of_multiset by outs rows others same all =
    let keys = weaker (UsesKeys by outs) (λ row. AllByRecursion (λ k. IsKeyCell (cell_at row k)) by)
    (λ row a. a.0) rows all in
    let compared =
    weaker (UsesKeys by outs) (λ row. AllByRecursion (λ o. ComparesKeys o.aggregate row) outs)
    (λ row a. a.1) rows all in
    let each : (t : List Datum) → group_row outs t (rows_with by t rows) ≡ group_row outs t (rows_with by t others) =
    λ t. row_same outs t _ _ (IsPermutation-filter (λ row. same_tuple t (cells_at by row)) rows others same)
    (all-filter (λ row. AllByRecursion (λ o. ComparesKeys o.aggregate row) outs)
    (λ row. same_tuple t (cells_at by row)) rows compared) in
    ap (map (λ t. group_row outs t (rows_with by t rows))) (tuples_same by rows others same keys)
    ∙ ap (λ (f : List Datum → List Datum). map f (tuples_of by others)) (λ i t. each t i)

pub ruleset multiset_laws = (groups-of_multiset)
