use Rattle.std.proofs.Common.{◌≤◌, All, rules, subst, ap, sym, ◌∙◌, arith, append-nil, []}
use Rattle.values.specs.Rose.{node, kids_of}
use Rattle.array_layout.specs.Buffers.{is_null}
use Rattle.array_layout.specs.Cells.{cell}
use Rattle.body_writer.specs.Slots.{items_in}
use Rattle.body_writer.specs.Runs.{AreAlike}
use Rattle.body_writer.specs.Segments.{segments_cells, LiesAs}
use Rattle.body_writer.proofs.RowRangeLemmas.{segments-more, all-more}
use Rattle.body_writer.proofs.ChildLemmas.{null-items}
use Rattle.body_writer.proofs.RunLemmas.{run-step, run-over}
use Rattle.body_writer.proofs.from_columns.children.push_items.Goals as goal

pub loop-at-preserved-in_ok-push : goal.loop-at-preserved-in_ok-push
loop-at-preserved-in_ok-push c =
    let inv = c.loop-at.invariant in
    let run = c.run_end-end.ensures in
    let parts = c.args.range.now.parts in
    let up : c.loop-at.at ≤ c.run_end-end.result = omega (arith, run.past) in
    record {
      past = omega (arith, inv.past, run.past);
      order = run.within;
      cells = run-step items_in (cell parts.body.now (node parts.own.now (kids_of parts.children.now))) c.loop-at.at
          c.run_end-end.result
          c.args.range.now.to (segments_cells c.loop-at.all.items) (segments_cells c.push.new.self.items) _ _ up run.within
          c.run_items.ensures.cells
          (ap segments_cells c.in_ok-push.ensures.items ∙ segments-more c.loop-at.all.items c.run_items.result) inv.cells;
      lies = λ t m below old. subst (All (LiesAs t m)) (sym c.in_ok-push.ensures.items)
          (all-more (LiesAs t m) c.loop-at.all.items c.run_items.result (inv.lies t m below old)
          (c.run_items.ensures.lies t m below));
    }

pub loop-at-preserved : goal.loop-at-preserved
loop-at-preserved c =
    let inv = c.loop-at.invariant in
    let run = c.run_end-end.ensures in
    let parts = c.args.range.now.parts in
    let up : c.loop-at.at ≤ c.run_end-end.result = omega (arith, run.past) in
    let none =
    null-items parts.body.now parts.own.now (kids_of parts.children.now) c.loop-at.at c.run_end-end.result up
    (ap (λ ys. is_null ys c.loop-at.at) (sym c.buffer-bits.ensures) ∙ search rules)
    (subst (λ ys. AreAlike ys c.loop-at.at c.run_end-end.result) c.buffer-bits.ensures run.same) in
    record {
      past = omega (arith, inv.past, run.past);
      order = run.within;
      cells = run-step items_in (cell parts.body.now (node parts.own.now (kids_of parts.children.now))) c.loop-at.at
          c.run_end-end.result
          c.args.range.now.to (segments_cells c.loop-at.all.items) (segments_cells c.loop-at.all.items) [] _ up run.within
          none
          (sym (append-nil (segments_cells c.loop-at.all.items))) inv.cells;
      lies = inv.lies;
    }

pub returns-clause-cells : goal.returns-clause-cells
returns-clause-cells c =
    let parts = c.args.range.now.parts in
    run-over items_in (cell parts.body.now (node parts.own.now (kids_of parts.children.now))) c.loop-at.at
    c.args.range.now.to
    (segments_cells c.loop-at.all.items) _ c.loop-at-test.false c.loop-at.invariant.cells
