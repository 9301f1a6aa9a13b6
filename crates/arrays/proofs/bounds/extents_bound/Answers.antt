use Rattle.array_layout.specs.Placing.{bytes_of}
use Rattle.arrays.proofs.BoundLemmas.{bounds_extents}
use Rattle.arrays.proofs.bounds.extents_bound.Goals as goal

pub returns-clause-value : goal.returns-clause-value
returns-clause-value c =
    bounds_extents c.weigh_alike.result c.args.weight c.longest_extent.result c.args.own.now.len c.args.width
    c.buffer.result.now (bytes_of c.args.body.now c.args.own.now.offsets) c.buffer.ensures c.weigh_alike.ensures.value
    c.longest_extent.ensures
