use Rattle.std.proofs.Common.{refl, arith, w8}
use Rattle.std.proofs.Math.Facts.{Fits-of_lt}
use Rattle.std.specs.Simd.Lanes.{chunk}
use Rattle.std.proofs.lemmas.Simd.{length-chunk}
use Rattle.column_truths.proofs.LaneNumbers.{differences, lane-bytes, lanes_within, mask_small, span_mask}
use Rattle.column_truths.proofs.by_lanes.within_8_bits.Goals as goal

pub overflow_cast-result : goal.overflow_cast-result
overflow_cast-result c =
    let lanes = chunk c.args.at 8 c.args.bytes.now in
    Fits-of_lt (mask_small w8 c.args.low c.args.span lanes (length-chunk c.args.at 8 c.args.bytes.now (omega arith)))

pub returns : goal.returns
returns c =
    let bytes = c.args.bytes.now in
    let lanes = chunk c.args.at 8 bytes in
    lanes_within w8 1 c.args.low c.args.span c.args.at
    (span_mask w8 c.args.span (differences w8 c.args.low lanes)) bytes lanes
    (length-chunk c.args.at 8 bytes (omega arith)) (lane-bytes c.args.at bytes) refl
