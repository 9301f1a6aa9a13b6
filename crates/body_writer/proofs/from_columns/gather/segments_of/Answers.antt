use Rattle.std.proofs.Common.{◌++◌, ap, ◌∙◌, subst, sym, All}
use Rattle.body_writer.specs.Segments.{HasWidth, OfSlots, segments_cells}
use Rattle.body_writer.specs.declared.from_columns.segment.Segment.TheVariants.{Slots}
use Rattle.body_writer.proofs.RowRangeLemmas.{column-step, segments-more, all-more}
use Rattle.body_writer.proofs.from_columns.gather.segments_of.Goals as goal

pub loop-range-preserved : goal.loop-range-preserved
loop-range-preserved c = record {
  segments = subst (All (OfSlots HasWidth)) (sym c.in_ok-push.ensures.items)
      (all-more (OfSlots HasWidth) c.loop-range.segments.items (Slots c.slots_in.result) c.loop-range.invariant.segments
      c.slots_in.ensures.segment);
  cells = column-step c.args.j c.args.ranges.now c.loop-range.range-index c.range-item.result (segments_cells
      c.loop-range.segments.items)
      (segments_cells c.push.new.self.items) _ c.loop-range-test.true c.range-item.is
      (ap segments_cells c.in_ok-push.ensures.items ∙ segments-more c.loop-range.segments.items (Slots c.slots_in.result)
      ∙ ap (λ cs. segments_cells c.loop-range.segments.items ++ cs) c.slots_in.ensures.cells) c.loop-range.invariant.cells;
}
