use Rattle.std.proofs.Common.{arith}
use Rattle.values.specs.Layouts.{null_weight}
use Rattle.stream_writer.proofs.PlaceBoundLemmas.{first-all, first-more}
use Rattle.stream_writer.proofs.RangeBoundLemmas.{null_weight-small}
use Rattle.stream_writer.proofs.location_bounds.bound_column.Goals as goal

pub loop-batch-init : goal.loop-batch-init
loop-batch-init c =
    let low = c.if-most-gt-MAX_CELL_WEIGHT.false in
    record {
      bound = λ k b below there. absurd (omega (arith, below));
      small = omega (arith, low);
      least = null_weight-small (null_weight c.args.layout.now) c.null_weight-most.result (omega (arith, c.null_weight-most.ensures))
          (omega (arith, low));
    }

pub loop-batch-preserved : goal.loop-batch-preserved
loop-batch-preserved c =
    let inv = c.loop-batch.invariant in
    let own = c.in_ok-bound_in.ensures in
    let is = c.max-most.ensures in
    record {
      bound = first-more c.args.layout.now c.args.j c.args.batches.now c.loop-batch.batch-index c.loop-batch.most
          c.in_ok-bound_in.field-0 c.max-most.result c.batch-item.result c.batch-item.is is inv.small own.small own.bound
          inv.bound;
      small = omega (arith, is, inv.small, own.small);
      least = omega (arith, is, inv.least);
    }

pub returns : goal.returns
returns c =
    first-all c.args.layout.now c.args.j c.args.batches.now c.loop-batch.batch-index c.loop-batch.most
    c.loop-batch-test.false c.loop-batch.invariant.least c.loop-batch.invariant.bound
