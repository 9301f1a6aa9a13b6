use Rattle.stream_writer.proofs.RangeBoundLemmas.{whole-bound}
use Rattle.stream_writer.proofs.range_bounds.bound_cells.Goals as goal

pub returns-then-saturating_sub-len : goal.returns-then-saturating_sub-len
returns-then-saturating_sub-len c =
    whole-bound c.args.column.now c.args.from c.args.to c.weight_bound.result c.requires c.weight_bound.ensures.each
    c.weight_bound.ensures.most
