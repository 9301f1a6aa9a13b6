use Rattle.std.proofs.Common.{◌≡◌, ◌∙◌, ap, get_or, subst, sym}
use Rattle.std.proofs.lemmas.Option.{get_or_from_slice_get}
use Rattle.values.specs.Datum.{null}
use Rattle.values.specs.Layouts.{weight}
use Rattle.values.specs.Weights.{saturated}
use Rattle.row_keys.specs.RowsLeft.{Bounds, bytes_beyond}
use Rattle.row_keys.proofs.Weighed.{bound_saturated}
use Rattle.row_keys.proofs.WeighedCells.{flat_bounds}
use Rattle.row_keys.proofs.weighing.weigh_cell.Goals as goal

pub returns-in-Some : goal.returns-in-Some
returns-in-Some c =
    flat_bounds c.args.layout.now (get_or c.args.column.now.cells c.args.index null) c.in-Some.bytes c.null_weight.result
    c.saturating_add.result
    (sym c.in-Some.is ∙ c.bytes_beyond.ensures ∙ ap bytes_beyond c.view.ensures) c.null_weight.ensures c.saturating_add.ensures

pub returns-in_ok-value-in-None : goal.returns-in_ok-value-in-None
returns-in_ok-value-in-None c =
    let t = c.args.layout.now in
    let d = get_or c.args.column.now.cells c.args.index null in
    let there : d ≡ c.in_ok-value-in-None.value =
    get_or_from_slice_get c.args.column.now.cells c.args.index c.in_ok-value-in-None.value null
    c.in_ok-value-in-None.ensures.value in
    let same : c.weight.result ≡ saturated (weight t d) =
    c.weight.ensures ∙ ap (λ v. saturated (weight t v)) (sym there) in
    subst (λ w. Bounds w (weight t d)) (sym same) (bound_saturated (weight t d))
