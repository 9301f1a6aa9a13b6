use Rattle.std.proofs.Common.{◌∙◌, arith, refl, subst, sym, ap, All}
use Rattle.body_writer.specs.RowRanges.{IsRange, batch_rows}
use Rattle.stream_writer.proofs.BatchRowLemmas.{rows-then, rows-else, all-ranges, batch-long, batch-sized}
use Rattle.stream_writer.proofs.batch_rows.ranges_of.Goals as goal
use Rattle.stream_writer.proofs.batch_rows.ranges_of.Goals.{else-start-to, then-start-to+in_ok-push}

pub loop-batch-preserved : goal.loop-batch-preserved
loop-batch-preserved c =
    let l = c.loop-batch in
    let b = c.batch-item.result in
    let bs = c.args.batches.now in
    let to = c.min-to.result in
    let least = c.min-to.ensures in
    let on = c.saturating_sub-start.ensures in
    elim c.if-start-to.branch [
      | then-start-to+in_ok-push w ↦
          (let grown = ap (λ v. v.items) w.ranges-is ∙ w.in_ok-push.ensures.items in
          let some = w.if-start-to.true in
          record {
            small = omega (arith, w.left-is, on, least, l.invariant.small, some);
            rows = rows-then batch_rows bs l.batch-index b b.rows l.start l.left to c.saturating_sub-start.result
                c.if-start-to.left l.ranges.items
                c.if-start-to.ranges.items _ _ c.loop-batch-test.true c.batch-item.is (batch-long b) some least grown refl
                w.left-is
                on l.invariant.rows;
            sized = λ n all.
                subst (All (IsRange n)) (sym grown)
                (all-ranges (IsRange n) l.ranges.items _ (l.invariant.sized n all)
                (record {
                  sized = batch-sized n bs l.batch-index b c.loop-batch-test.true c.batch-item.is all;
                  order = omega (arith, some);
                  within = omega (arith, least);
                }));
          })
      | else-start-to w ↦
          (let same = ap (λ v. v.items) w.ranges-is in
          record {
            small = omega (arith, w.left-is, on, l.invariant.small);
            rows = rows-else batch_rows bs l.batch-index b b.rows l.start l.left to c.saturating_sub-start.result
                c.if-start-to.left l.ranges.items
                c.if-start-to.ranges.items _ c.loop-batch-test.true c.batch-item.is (batch-long b) w.if-start-to.false (omega (
                  arith,
                  c.if-left-eq0.false,
                ))
                least same w.left-is on l.invariant.rows;
            sized = λ n all. subst (All (IsRange n)) (sym same) (l.invariant.sized n all);
          })
    ]
