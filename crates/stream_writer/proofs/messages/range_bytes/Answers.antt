use Rattle.std.proofs.Common.{◌∙◌, ◌+◌, ap, ◌++◌, drop}
use Rattle.array_layout.specs.declared.array.BufferRange.{BufferRange}
use Rattle.stream_writer.specs.Batch.{range_bytes}
use Rattle.stream_writer.proofs.BatchFits.{ranges-more}
use Rattle.stream_writer.proofs.messages.range_bytes.Goals as goal

pub loop-range-preserved : goal.loop-range-preserved
loop-range-preserved c =
    let zero : BufferRange = record { from = 0; len = 0 } in
    let i = c.loop-range.range-index in
    ap (λ bytes. bytes ++ range_bytes (drop (i + 1) c.args.ranges.now)) (c.in_ok-extend_from_slice.ensures.items
    ∙ ap (λ bytes. c.loop-range.bytes.items ++ bytes) c.range_pair.ensures)
    ∙ ranges-more c.loop-range.bytes.items c.args.ranges.now i zero c.loop-range-test.true
    ∙ c.loop-range.invariant
