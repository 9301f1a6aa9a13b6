use Rattle.std.proofs.Common.{refl, w16}
use Rattle.std.proofs.Math.Facts.{Fits-of_lt}
use Rattle.column_truths.proofs.LaneNumbers.{
  differences,
  lane-wide_lanes,
  lanes_within,
  length-wide_lanes,
  mask_small,
  span_mask,
  wide_lanes,
}
use Rattle.column_truths.proofs.by_lanes.within_16_bits.Goals as goal

pub overflow_cast-result : goal.overflow_cast-result
overflow_cast-result c =
    let bytes = c.args.bytes.now in
    Fits-of_lt
    (mask_small w16 c.args.low c.args.span (wide_lanes 65536 2 c.args.at bytes)
    (length-wide_lanes 65536 2 c.args.at bytes))

pub returns : goal.returns
returns c =
    let bytes = c.args.bytes.now in
    let lanes = wide_lanes 65536 2 c.args.at bytes in
    lanes_within w16 2 c.args.low c.args.span c.args.at
    (span_mask w16 c.args.span (differences w16 c.args.low lanes)) bytes lanes
    (length-wide_lanes 65536 2 c.args.at bytes)
    (lane-wide_lanes 65536 2 c.args.at bytes refl c.requires c.type_inv.bytes) refl
