use Rattle.std.proofs.Common.{◌++◌, ap, sym, ◌∙◌}
use Rattle.body_writer.specs.Segments.{segments_cells}
use Rattle.body_writer.specs.declared.from_columns.segment.Segment.TheVariants.{Nulls}
use Rattle.body_writer.proofs.RowRangeLemmas.{segments-more}
use Rattle.body_writer.proofs.NullLemmas.{below-struct, below-list}
use Rattle.body_writer.proofs.from_columns.children.push_below_nulls.Goals as goal

pub returns-in_ok-push-in-Struct-clause-cells : goal.returns-in_ok-push-in-Struct-clause-cells
returns-in_ok-push-in-Struct-clause-cells c = λ j.
    ap segments_cells c.in_ok-push-in-Struct.ensures.items ∙ segments-more c.args.all.now.items (Nulls c.args.count)
    ∙ ap (λ cs. segments_cells c.args.all.now.items ++ cs) (sym (below-struct c.args.layout j c.args.count
    c.in-Struct.is))

pub returns-in-List-clause-cells : goal.returns-in-List-clause-cells
returns-in-List-clause-cells c = λ j.
    below-list c.args.layout c.in-List.offsets j c.args.count (segments_cells c.args.all.now.items) c.in-List.is
