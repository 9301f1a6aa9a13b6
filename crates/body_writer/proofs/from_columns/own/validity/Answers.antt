use Rattle.std.proofs.Common.{ap, sym, ◌∙◌}
use Rattle.bitmaps.specs.Packed.{bytes_of}
use Rattle.body_writer.specs.Slots.{is_valid}
use Rattle.body_writer.proofs.Cells.{validity-none, validity-some}
use Rattle.body_writer.specs.Segments.{segments_cells}
use Rattle.body_writer.proofs.SegmentLemmas.{maps-over}
use Rattle.body_writer.proofs.from_columns.own.validity.Goals as goal

pub returns-then-nulls-eq0 : goal.returns-then-nulls-eq0
returns-then-nulls-eq0 c =
    ap bytes_of c.new-bits.ensures ∙ validity-none (segments_cells c.args.segments.now) (sym c.requires.nulls
    ∙ c.if-nulls-eq0.true)

pub returns : goal.returns
returns c =
    validity-some (segments_cells c.args.segments.now) c.loop-segment.bits (λ e. c.if-nulls-eq0.false (c.requires.nulls ∙ e))
    (maps-over is_valid c.args.segments.now c.loop-segment.segment-index c.loop-segment.bits _ c.loop-segment-test.false
    c.loop-segment.invariant.bits)
