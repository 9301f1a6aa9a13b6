use Rattle.std.proofs.Common.{subst, ap, sym, ◌∙◌, ◌-◌}
use Rattle.values.specs.Rose.{Rose}
use Rattle.values.specs.Reading.{IsValid}
use Rattle.array_layout.specs.declared.array.ArrayData.{ArrayData}
use Rattle.array_layout.specs.Cells.{cell}
use Rattle.body_writer.specs.Runs.{slots}
use Rattle.body_writer.specs.Segments.{Lies}
use Rattle.body_writer.proofs.ChildLemmas.{list-run, run-order, run-valid, run-cells}
use Rattle.body_writer.proofs.from_columns.children.run_items.Goals as goal

pub array_slots-requires-clause-valid : goal.array_slots-requires-clause-valid
array_slots-requires-clause-valid c = λ k lo hi.
    let run =
    list-run c.args.range.now c.index-parts-0.result c.args.at c.args.end c.offset.result c.offset-2.result
    c.buffer-offsets.result.now
    c.requires.lists c.requires.start c.requires.order c.requires.within c.requires.valid c.index-parts-0.is
    c.buffer-offsets.ensures
    c.offset.ensures c.offset-2.ensures in
    subst (λ (t : Rose ArrayData). IsValid (cell c.args.range.now.parts.body.now t k)) c.index-parts-0.is
    (run-valid _ _ _ _ _ _ _ _ _ run k lo hi)

pub array_slots-requires-clause-order : goal.array_slots-requires-clause-order
array_slots-requires-clause-order c =
    let run =
    list-run c.args.range.now c.index-parts-0.result c.args.at c.args.end c.offset.result c.offset-2.result
    c.buffer-offsets.result.now
    c.requires.lists c.requires.start c.requires.order c.requires.within c.requires.valid c.index-parts-0.is
    c.buffer-offsets.ensures
    c.offset.ensures c.offset-2.ensures in
    run-order _ _ _ _ _ _ _ _ _ run

pub returns-clause-cells : goal.returns-clause-cells
returns-clause-cells c =
    let run =
    list-run c.args.range.now c.index-parts-0.result c.args.at c.args.end c.offset.result c.offset-2.result
    c.buffer-offsets.result.now
    c.requires.lists c.requires.start c.requires.order c.requires.within c.requires.valid c.index-parts-0.is
    c.buffer-offsets.ensures
    c.offset.ensures c.offset-2.ensures in
    c.array_slots.ensures.cells
    ∙ ap (λ (t : Rose ArrayData). slots (cell c.args.range.now.parts.body.now t) c.offset.result (c.offset-2.result -
    c.offset.result)) (sym c.index-parts-0.is)
    ∙ run-cells _ _ _ _ _ _ _ _ _ run

pub returns-clause-lies : goal.returns-clause-lies
returns-clause-lies c = λ t m lies.
    c.array_slots.ensures.lies t m
    (subst (Lies t m) c.index-parts-0.is (lies c.index-parts-0.result c.index-parts-0.is))
