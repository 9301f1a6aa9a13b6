use Rattle.std.proofs.Common.{arith, ◌∙◌, sym}
use Rattle.body_writer.specs.RowRanges.{range_rows}
use Rattle.stream_writer.proofs.BatchRowLemmas.{step-over}
use Rattle.stream_writer.proofs.RangeLemmas.{range-at, range-long}
use Rattle.stream_writer.proofs.range_rows.find_range.Goals as goal

pub rows_in-rows-requires : goal.rows_in-rows-requires
rows_in-rows-requires c =
    (range-at c.requires.0 c.args.ranges.now c.loop-i.i c.index-ranges-i.result c.loop-i-test.true
    c.index-ranges-i.is c.requires.1).order

pub loop-i-preserved : goal.loop-i-preserved
loop-i-preserved c =
    let r = c.index-ranges-i.result in
    let is = range-at c.requires.0 c.args.ranges.now c.loop-i.i r c.loop-i-test.true c.index-ranges-i.is c.requires.1 in
    record {
      rows = step-over range_rows c.args.ranges.now c.loop-i.i r c.rows_in-rows.result c.loop-i.start _
          c.loop-i-test.true c.index-ranges-i.is (range-long c.requires.0 r is ∙ sym c.rows_in-rows.ensures.rows) (omega arith)
          c.loop-i.invariant.rows;
      bound = omega (arith, c.loop-i.invariant.bound);
    }
