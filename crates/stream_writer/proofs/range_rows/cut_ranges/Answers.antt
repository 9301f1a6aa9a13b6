use Rattle.std.proofs.Common.{◌∙◌, arith, refl, subst, sym, ap, All}
use Rattle.body_writer.specs.RowRanges.{IsRange, range_rows}
use Rattle.stream_writer.proofs.BatchRowLemmas.{rows-then, rows-else, all-ranges}
use Rattle.stream_writer.proofs.RangeLemmas.{part-range, part-rows, range-at, range-long}
use Rattle.stream_writer.proofs.range_rows.cut_ranges.Goals as goal
use Rattle.stream_writer.proofs.range_rows.cut_ranges.Goals.{else-start-to, then-start-to+in_ok-push}

pub rows_in-rows-requires : goal.rows_in-rows-requires
rows_in-rows-requires c =
    (range-at c.requires.ranges.0 c.args.ranges.now c.loop-range.range-index c.range-item.result c.loop-range-test.true
    c.range-item.is c.requires.ranges.1).order

pub loop-range-preserved : goal.loop-range-preserved
loop-range-preserved c =
    let l = c.loop-range in
    let r = c.range-item.result in
    let rs = c.args.ranges.now in
    let rows = c.rows_in-rows.result in
    let to = c.min-to.result in
    let least = c.min-to.ensures in
    let on = c.saturating_sub-start.ensures in
    let is = range-at c.requires.ranges.0 rs l.range-index r c.loop-range-test.true c.range-item.is c.requires.ranges.1 in
    let size = range-long c.requires.ranges.0 r is ∙ sym c.rows_in-rows.ensures.rows in
    elim c.if-start-to.branch [
      | then-start-to+in_ok-push w ↦
          (let grown = ap (λ v. v.items) w.cut-is ∙ w.in_ok-push.ensures.items in
          let some = w.if-start-to.true in
          record {
            small = omega (arith, w.left-is, on, least, l.invariant.small, some);
            rows = rows-then range_rows rs l.range-index r rows l.start l.left to c.saturating_sub-start.result
                c.if-start-to.left l.cut.items c.if-start-to.cut.items _ _ c.loop-range-test.true c.range-item.is size some
                least grown
                (part-rows r _ l.start to refl refl refl some (omega (arith, least, c.rows_in-rows.ensures.rows)))
                w.left-is on l.invariant.rows;
            sized = λ n all.
                subst (All (IsRange n)) (sym grown)
                (all-ranges (IsRange n) l.cut.items _ (l.invariant.sized n all)
                (part-range n r _ l.start to refl refl refl some (omega (arith, least, c.rows_in-rows.ensures.rows))
                (range-at n rs l.range-index r c.loop-range-test.true c.range-item.is all)));
          })
      | else-start-to w ↦
          (let same = ap (λ v. v.items) w.cut-is in
          record {
            small = omega (arith, w.left-is, on, l.invariant.small);
            rows = rows-else range_rows rs l.range-index r rows l.start l.left to c.saturating_sub-start.result
                c.if-start-to.left l.cut.items c.if-start-to.cut.items _ c.loop-range-test.true c.range-item.is size
                w.if-start-to.false (omega (
                  arith,
                  c.if-left-eq0.false,
                ))
                least same w.left-is on l.invariant.rows;
            sized = λ n all. subst (All (IsRange n)) (sym same) (l.invariant.sized n all);
          })
    ]

pub overflow_add-range : goal.overflow_add-range
overflow_add-range c =
    let some = c.if-start-to.true in
    let least = c.min-to.ensures in
    let end = c.rows_in-rows.ensures.end in
    omega (arith, some, least, end)

pub overflow_add-range-then-start-to : goal.overflow_add-range-then-start-to
overflow_add-range-then-start-to c =
    let least = c.min-to.ensures in
    let end = c.rows_in-rows.ensures.end in
    omega (arith, least, end)
