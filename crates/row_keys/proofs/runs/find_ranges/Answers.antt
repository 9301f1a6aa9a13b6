use Rattle.std.proofs.Common.{◌<◌, ◌+◌, List, ap, arith, get_or, length, refl, subst, sym}
use Rattle.body_writer.specs.declared.from_columns.batch.RowRange.{RowRange}
use Rattle.row_keys.specs.Chunks.{LiesAt, row_in}
use Rattle.row_keys.specs.declared.runs.Run.{Run}
use Rattle.row_keys.proofs.RunRows.{RunSoFar, run_grows, run_turns}
use Rattle.row_keys.proofs.runs.find_ranges.Goals as goal
use Rattle.row_keys.proofs.runs.find_ranges.Goals.{else-stretch-run+in_ok-push_run, then-stretch-run+then-row-run}

pub overflow_add-run : goal.overflow_add-run
overflow_add-run c =
    let with = c.step-stretch.ensures in
    let same = c.if-row-run.true in
    let row = c.row_of-row.ensures in
    omega (arith, with.0.small, with.1.0, with.1.1, row, same)

pub overflow_add-run-else-stretch-run : goal.overflow_add-run-else-stretch-run
overflow_add-run-else-stretch-run c =
    let with = c.step-stretch.ensures in
    let row = c.row_of-row.ensures in
    omega (arith, with.0.small, with.1.0, with.1.1, row)

pub loop-number-preserved : goal.loop-number-preserved
loop-number-preserved c =
    let l = c.loop-number in
    let cs = c.args.chunks.now in
    let numbers = c.args.numbers.now in
    let i = l.number-index in
    let n = get_or numbers i 0 in
    let s = c.step-stretch.result in
    let row = c.row_of-row.result in
    let with = c.step-stretch.ensures in
    let at : LiesAt cs n s.chunk row = subst (λ k. LiesAt cs n s.chunk k) (sym c.row_of-row.ensures) (with.0.lies n with.1) in
    let kept : 0 < length (row_in cs n) = c.requires.kept i 0 c.loop-number-test.true in
    let R : List RowRange → Run → Type 0 = λ rs r. RunSoFar cs numbers (i + 1) rs r.chunk r.from r.to in
    let so_far = l.invariant.so_far in
    record {
      stretch = with.0;
      so_far = elim c.if-stretch-run.branch [
        | then-stretch-run+then-row-run w ↦
            subst (R c.if-stretch-run.ranges.items) (sym w.run-is)
            (subst (λ rs. RunSoFar cs numbers (i + 1) rs l.run.chunk l.run.from (l.run.to + 1))
            (sym (ap (λ v. v.items) w.ranges-is))
            (run_grows cs numbers i n l.ranges.items l.run.chunk l.run.from l.run.to s.chunk row c.loop-number-test.true
            refl at kept w.if-stretch-run.true w.if-row-run.true so_far))
        | else-stretch-run+in_ok-push_run w ↦
            subst (R c.if-stretch-run.ranges.items) (sym w.run-is)
            (subst (λ rs. RunSoFar cs numbers (i + 1) rs s.chunk row (row + 1)) (sym (ap (λ v. v.items) w.ranges-is))
            (run_turns cs numbers i n l.ranges.items w.push_run.new.ranges.items l.run.chunk l.run.from l.run.to s.chunk
            row c.loop-number-test.true refl at kept w.in_ok-push_run.ensures.rows w.in_ok-push_run.ensures.ranges so_far))
      ];
    }

pub returns-clause-ranges : goal.returns-clause-ranges
returns-clause-ranges c = λ w wide.
    c.in_ok-push_run-2.ensures.ranges w (c.loop-number.invariant.so_far.wide w wide)
    (c.loop-number.invariant.so_far.sized w wide)
