use Rattle.std.proofs.Common.{All, ◌≤◌, List, refl, subst}
use Rattle.std.proofs.lemmas.List.{take_all}
use Rattle.std.proofs.lemmas.List.Elements.{All-more}
use Rattle.values.specs.Datum.{Datum, items_of}
use Rattle.values.specs.Layouts.{HoldsEach}
use Rattle.values.specs.Rose.{kids_of}
use Rattle.body_writer.specs.Batch.{row_weight}
use Rattle.body_writer.specs.RowRanges.{range_rows}
use Rattle.body_writer.specs.Picked.{picked_rows}
use Rattle.body_writer.specs.declared.from_columns.batch.RowRange.{RowRange}
use Rattle.stream_writer.specs.BatchRows.{AreLightRows, max_light_row}
use Rattle.stream_writer.proofs.RangeLemmas.{all-ranges, each-range}
use Rattle.stream_writer.proofs.range_bounds.are_light.Goals as goal

pub is_light-requires-clause-held : goal.is_light-requires-clause-held
is_light-requires-clause-held c =
    each-range (λ (row : List Datum). HoldsEach (kids_of c.args.layouts.now) (items_of row)) c.args.columns.now
    c.args.ranges.now c.loop-range.range-index c.range-item.result c.loop-range-test.true c.range-item.is
    c.requires.held

pub loop-range-preserved : goal.loop-range-preserved
loop-range-preserved c =
    let r = c.range-item.result in
    let P : RowRange → Type 0 = λ x. AreLightRows (kids_of c.args.layouts.now) (picked_rows c.args.columns.now (range_rows x)) in
    All-more P c.args.ranges.now c.loop-range.range-index r c.loop-range-test.true c.loop-range.invariant
    (subst P c.range-item.is (c.if-not-is_light.ensures refl))

pub returns : goal.returns
returns c = λ yes.
    let ls = kids_of c.args.layouts.now in
    let P : RowRange → Type 0 = λ x. AreLightRows ls (picked_rows c.args.columns.now (range_rows x)) in
    let A : List RowRange → Type 0 = λ rs. All P rs in
    all-ranges (λ (row : List Datum). row_weight ls row ≤ max_light_row) c.args.columns.now c.args.ranges.now
    (subst A (take_all c.loop-range.range-index c.args.ranges.now c.loop-range-test.false) c.loop-range.invariant)
