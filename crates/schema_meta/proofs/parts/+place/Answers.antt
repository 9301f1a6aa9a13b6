use Rattle.std.proofs.Common.{arith}
use Rattle.schema_meta.proofs.Counts.{nodes_step, ranges_step}
use Rattle.schema_meta.proofs.Places.{placed_step}
use Rattle.dictionaries.specs.Table.{values_in}
use Rattle.schema_meta.proofs.parts.+place.Goals as goal

pub place_all-loop-field-preserved : goal.place_all-loop-field-preserved
place_all-loop-field-preserved t c =
    let nodes =
    nodes_step c.args.fields.now c.loop-field.field-index c.field-item.result c.field-item.result c.field-item.is
    c.loop-field-test.true in
    let ranges =
    ranges_step c.args.fields.now c.loop-field.field-index c.field-item.result c.field-item.result c.field-item.is
    c.loop-field-test.true in
    rw c.in_ok-push.ensures.items (
      placed_step (values_in c.args.dicts.now) c.args.nodes.now c.args.ranges.now c.args.fields.now
          c.loop-field.field-index c.field-item.result c.field-item.result
          c.loop-field.at.node c.loop-field.at.range c.place.new.at.node c.place.new.at.range c.loop-field.arrays.items
          c.in_ok-place.field-0 _
          c.field-item.is c.loop-field-test.true c.in_ok-place.ensures.array c.in_ok-place.ensures.node
          c.in_ok-place.ensures.range
          c.loop-field.invariant.0,
      omega (arith, nodes, c.in_ok-place.ensures.node, c.loop-field.invariant.1),
      omega (arith, ranges, c.in_ok-place.ensures.range, c.loop-field.invariant.2),
    )
