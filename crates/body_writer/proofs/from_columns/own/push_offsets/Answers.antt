use Rattle.std.proofs.Common.{◌∙◌, ◌++◌, [], arith, ap, append-nil}
use Rattle.std.specs.Prelude.{map}
use Rattle.body_writer.specs.Slots.{length_in}
use Rattle.body_writer.specs.Columns.{offsets, offsets_from}
use Rattle.body_writer.specs.Segments.{segments_cells}
use Rattle.body_writer.proofs.SegmentLemmas.{total-split, starts-step, starts-over}
use Rattle.body_writer.proofs.from_columns.own.push_offsets.Goals as goal

pub push_segment_starts-requires-clause-short : goal.push_segment_starts-requires-clause-short
push_segment_starts-requires-clause-short c =
    let split = total-split c.args.segments.now c.loop-segment.segment-index c.segment-item.result c.loop-segment-test.true
    c.segment-item.is in
    omega (arith, split, c.loop-segment.invariant.end, c.requires.short)

pub loop-segment-preserved : goal.loop-segment-preserved
loop-segment-preserved c =
    let split = total-split c.args.segments.now c.loop-segment.segment-index c.segment-item.result c.loop-segment-test.true
    c.segment-item.is in
    record {
      end = omega (arith, split, c.loop-segment.invariant.end, c.in_ok-end.ensures.end);
      bytes = λ rest.
          starts-step c.args.width c.args.segments.now c.loop-segment.segment-index c.segment-item.result c.loop-segment.end
          c.in_ok-end.end
          c.loop-segment.out.items c.push_segment_starts.new.out.items _ rest c.loop-segment-test.true c.segment-item.is
          c.in_ok-end.ensures.bytes (c.loop-segment.invariant.bytes rest);
    }

pub returns : goal.returns
unfolding offsets offsets_from
returns c =
    c.in_ok-push_offset.ensures
    ∙ starts-over c.args.width c.args.segments.now c.loop-segment.segment-index c.loop-segment.end c.loop-segment.out.items _
    c.loop-segment-test.false (c.loop-segment.invariant.bytes [])
    ∙ ap (λ ns. c.args.out.now.items ++ offsets_from c.args.width 0 ns) (append-nil (map length_in (segments_cells c.args.segments.now)))
