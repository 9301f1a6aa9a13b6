use Rattle.std.proofs.Common.{List, ◌+◌, ap, subst, sym}
use Rattle.body_writer.specs.declared.from_columns.segment.Segment.{Segment}
use Rattle.body_writer.specs.declared.from_locations.cells.RowRun.{RowRun}
use Rattle.body_writer.proofs.RowRuns.{RunSoFar, run-grows, run-turns}
use Rattle.body_writer.proofs.from_locations.cells.segments_at.Goals as goal
use Rattle.body_writer.proofs.from_locations.cells.segments_at.Goals.{then-place-run+then-place-run-2, else-place-run+in_ok-push_run}

pub push_run-requires : goal.push_run-requires
push_run-requires c = record {
  width = c.requires.width;
  below = c.requires.below;
  placed = c.loop-place.invariant.placed c.requires.width c.requires.placed;
}

pub loop-place-preserved : goal.loop-place-preserved
loop-place-preserved c =
    let l = c.loop-place in
    let j = c.args.j in
    let bs = c.args.batches.now in
    let ps = c.args.locations.now in
    let i = l.place-index in
    let R : List Segment → RowRun → Type 0 = λ ss r. RunSoFar j bs ps (i + 1) ss r.batch r.from r.to in
    elim c.if-place-run.branch [
      | then-place-run+then-place-run-2 w ↦
          subst (R c.if-place-run.segments.items) (sym w.run-is)
          (subst (λ ss. R ss (record { batch = l.run.batch; from = l.run.from; to = c.in_ok-next.next }))
          (sym (ap (λ v. v.items) w.segments-is))
          (run-grows j bs ps i l.segments.items l.run.batch l.run.from l.run.to c.in_ok-next.next _ c.loop-place-test.true
          w.if-place-run.true w.if-place-run-2.true c.in_ok-next.ensures l.invariant))
      | else-place-run+in_ok-push_run w ↦
          subst (R c.if-place-run.segments.items) (sym w.run-is)
          (subst (λ ss. RunSoFar j bs ps (i + 1) ss _ _ c.in_ok-next.next) (sym (ap (λ v. v.items) w.segments-is))
          (run-turns j bs ps i l.segments.items w.push_run.new.segments.items l.run.batch l.run.from l.run.to
          c.in_ok-next.next _ c.loop-place-test.true c.in_ok-next.ensures w.in_ok-push_run.ensures.cells
          w.in_ok-push_run.ensures.width l.invariant))
    ]

pub push_run-requires-2 : goal.push_run-requires-2
push_run-requires-2 c = record {
  width = c.requires.width;
  below = c.requires.below;
  placed = c.loop-place.invariant.placed c.requires.width c.requires.placed;
}
