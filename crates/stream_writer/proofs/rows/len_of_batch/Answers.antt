use Rattle.std.proofs.Common.{◌≡◌, ◌+◌, ◌-◌, arith, ap, drop}
use Rattle.values.specs.Limits.{max_batch_rows}
use Rattle.values.specs.Rose.{kids_of}
use Rattle.body_writer.specs.Batch.{row_weight}
use Rattle.body_writer.proofs.Rows.{cells_in}
use Rattle.stream_writer.specs.Stream.{batch_len, beginning}
use Rattle.stream_writer.proofs.Cut.{saturated-weight, stops-heavy, stops-end, goes-on}
use Rattle.stream_writer.proofs.rows.len_of_batch.Goals as goal

pub returns-then-room-weight-clause-value : goal.returns-then-room-weight-clause-value
unfolding batch_len
returns-then-room-weight-clause-value c =
    let l = c.loop-row in
    let ls = kids_of c.args.layouts.now in
    let heavy = c.if-room-weight.true in
    let weight =
    saturated-weight ls c.args.rows.now l.row-index c.row-item.result c.deref.result.now c.row_weight-weight.result
    c.requires c.loop-row-test.true c.row-item.is c.deref.ensures.value c.row_weight-weight.ensures in
    let none =
    stops-heavy ls (max_batch_rows - l.count) l.room c.args.rows.now l.row-index c.row-item.result
    c.loop-row-test.true c.row-item.is (omega (arith, heavy, weight)) in
    omega (arith, none, l.invariant.value)

pub returns-clause-value : goal.returns-clause-value
unfolding batch_len
returns-clause-value c =
    let l = c.loop-row in
    let none =
    stops-end (kids_of c.args.layouts.now) (max_batch_rows - l.count) l.room c.args.rows.now l.row-index
    c.loop-row-test.false in
    omega (arith, none, l.invariant.value)

pub loop-row-preserved : goal.loop-row-preserved
loop-row-preserved c =
    let l = c.loop-row in
    let ls = kids_of c.args.layouts.now in
    let some = c.if-count-eq-MAX_BATCH_ROWS.false in
    let light = c.if-room-weight.false in
    let weight =
    saturated-weight ls c.args.rows.now l.row-index c.row-item.result c.deref.result.now c.row_weight-weight.result
    c.requires c.loop-row-test.true c.row-item.is c.deref.ensures.value c.row_weight-weight.ensures in
    let few = l.invariant.few in
    let more =
    goes-on ls (max_batch_rows - l.count) l.room c.args.rows.now l.row-index c.row-item.result c.loop-row-test.true
    c.row-item.is (omega (arith, some, few)) (omega (arith, light, weight)) in
    let fewer : max_batch_rows - l.count - 1 ≡ max_batch_rows - (l.count + 1) = omega arith in
    let moved =
    ap (λ n. beginning ls n (l.room - row_weight ls c.row-item.result.items)
    (cells_in (drop (l.row-index + 1) c.args.rows.now))) fewer in
    let room =
    ap (λ w. beginning ls (max_batch_rows - (l.count + 1)) (l.room - w)
    (cells_in (drop (l.row-index + 1) c.args.rows.now))) weight in
    record {
      index = omega (arith, l.invariant.index);
      few = omega (arith, some, few);
      value = omega (arith, more, moved, room, l.invariant.value);
    }
