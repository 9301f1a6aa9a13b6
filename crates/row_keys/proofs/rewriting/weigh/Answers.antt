use Rattle.std.proofs.Common.{◌+◌, drop, refl, arith, subst, sym}
use Rattle.values.specs.Rose.{kids_of}
use Rattle.body_writer.specs.Batch.{rows_weight}
use Rattle.body_writer.specs.RowRanges.{range_rows, ranges_rows}
use Rattle.row_keys.proofs.Weighed.{WeighedTo, ranges_none, ranges_split, weighed_first, weighed_more}
use Rattle.row_keys.proofs.rewriting.weigh.Goals as goal

pub loop-range-init : goal.loop-range-init
loop-range-init c = weighed_first _ _ refl

pub loop-range-preserved : goal.loop-range-preserved
loop-range-preserved c =
    let ls = kids_of c.args.layouts.now in
    let rs = c.args.ranges.now in
    let i = c.loop-range.range-index in
    let rest = rows_weight ls (ranges_rows (drop (i + 1) rs)) in
    let total = rows_weight ls (ranges_rows rs) in
    subst (λ s. WeighedTo total s rest) (sym c.saturating_add-sum.ensures)
    (weighed_more total c.loop-range.sum c.in_ok-weigh_range.field-0 (rows_weight ls (ranges_rows (drop i rs)))
    (rows_weight ls (range_rows c.range-item.result)) rest c.in_ok-weigh_range.ensures
    (ranges_split ls rs i c.range-item.result c.range-item.is c.loop-range-test.true) c.loop-range.invariant)

pub returns : goal.returns
returns c =
    let end = c.loop-range-test.false in
    let left = ranges_none (kids_of c.args.layouts.now) c.args.ranges.now c.loop-range.range-index (omega (arith, end)) in
    λ low. let all = c.loop-range.invariant low in omega (arith, all, left)
