use Rattle.stream_writer.specs.RangeBounds.{IsHeaviest}
use Rattle.stream_writer.proofs.range_bounds.weigh_cells.Given as goal

abbrev pub invariant-loop-index : goal.invariant-loop-index
invariant-loop-index l = IsHeaviest l.column l.from l.index l.most
