use Rattle.std.proofs.Common.{◌≡◌, ◌+◌, ◌-◌, slice_index_or, arith, ap, drop}
use Rattle.values.specs.Limits.{max_batch_rows}
use Rattle.stream_writer.specs.Weights.{fitting}
use Rattle.stream_writer.proofs.FittingLemmas.{fitting-stops, fitting-on, fitting-end}
use Rattle.stream_writer.proofs.weighing.count_fitting.Goals as goal

pub returns-then-room-weight-clause-value : goal.returns-then-room-weight-clause-value
returns-then-room-weight-clause-value c =
    let l = c.loop-weight in
    let none =
    fitting-stops (max_batch_rows - l.count) l.room c.args.weights.now l.weight-index c.loop-weight-test.true
    c.if-room-weight.true in
    omega (arith, none, l.invariant.value)

pub loop-weight-preserved : goal.loop-weight-preserved
loop-weight-preserved c =
    let l = c.loop-weight in
    let ws = c.args.weights.now in
    let w = slice_index_or ws l.weight-index 0 in
    let some = c.if-count-eq-MAX_BATCH_ROWS.false in
    let few = l.invariant.few in
    let more =
    fitting-on (max_batch_rows - l.count) l.room ws l.weight-index c.loop-weight-test.true (omega (arith, some, few))
    (omega (arith, c.if-room-weight.false)) in
    let fewer : max_batch_rows - l.count - 1 ≡ max_batch_rows - (l.count + 1) = omega arith in
    let moved = ap (λ n. fitting n (l.room - w) (drop (l.weight-index + 1) ws)) fewer in
    record {
      index = omega (arith, l.invariant.index);
      few = omega (arith, some, few);
      value = omega (arith, more, moved, l.invariant.value);
    }

pub returns-clause-value : goal.returns-clause-value
returns-clause-value c =
    let l = c.loop-weight in
    let none = fitting-end (max_batch_rows - l.count) l.room c.args.weights.now l.weight-index c.loop-weight-test.false in
    omega (arith, none, l.invariant.value)
