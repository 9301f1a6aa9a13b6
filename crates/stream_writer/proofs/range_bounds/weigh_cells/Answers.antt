use Rattle.std.proofs.Common.{arith}
use Rattle.stream_writer.proofs.RangeBoundLemmas.{heavier, none-heavy}
use Rattle.stream_writer.proofs.range_bounds.weigh_cells.Goals as goal

pub loop-index-init : goal.loop-index-init
loop-index-init c = none-heavy c.args.column.now c.args.from

pub loop-index-preserved : goal.loop-index-preserved
loop-index-preserved c =
    heavier c.args.column.now c.args.from c.loop-index.index c.loop-index.most c.weight.result c.max-most.result
    (omega (arith, c.loop-index-test.true, c.requires)) c.weight.ensures c.max-most.ensures c.loop-index.invariant
