use Rattle.std.proofs.Common.{◌≤◌, All, subst, ap, sym, ◌∙◌, arith}
use Rattle.values.specs.Rose.{node, kids_of}
use Rattle.array_layout.specs.Cells.{cell}
use Rattle.body_writer.specs.Slots.{part}
use Rattle.body_writer.specs.Segments.{segments_cells, LiesAs}
use Rattle.body_writer.proofs.RowRangeLemmas.{segments-more, all-more}
use Rattle.body_writer.proofs.BitLemmas.{map-over}
use Rattle.body_writer.proofs.ChildLemmas.{map-run-step}
use Rattle.body_writer.proofs.from_columns.children.push_parts.Goals as goal

pub loop-at-preserved : goal.loop-at-preserved
loop-at-preserved c =
    let inv = c.loop-at.invariant in
    let run = c.run_end-end.ensures in
    let parts = c.args.range.now.parts in
    let up : c.loop-at.at ≤ c.run_end-end.result = omega (arith, run.past) in
    record {
      past = omega (arith, inv.past, run.past);
      order = run.within;
      cells = map-run-step (part c.args.j) (cell parts.body.now (node parts.own.now (kids_of parts.children.now)))
          c.loop-at.at
          c.run_end-end.result c.args.range.now.to (segments_cells c.loop-at.all.items) (segments_cells
          c.push.new.self.items) _ _ up run.within
          c.run_part.ensures.cells (ap segments_cells c.in_ok-push.ensures.items
          ∙ segments-more c.loop-at.all.items c.run_part.result) inv.cells;
      lies = λ t m below old. subst (All (LiesAs t m)) (sym c.in_ok-push.ensures.items)
          (all-more (LiesAs t m) c.loop-at.all.items c.run_part.result (inv.lies t m below old)
          (c.run_part.ensures.lies t m below));
    }

pub returns-clause-cells : goal.returns-clause-cells
returns-clause-cells c =
    let parts = c.args.range.now.parts in
    map-over (part c.args.j) (cell parts.body.now (node parts.own.now (kids_of parts.children.now))) c.loop-at.at
    c.args.range.now.to
    (segments_cells c.loop-at.all.items) _ c.loop-at-test.false c.loop-at.invariant.cells
