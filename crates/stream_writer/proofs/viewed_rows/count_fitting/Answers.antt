use Rattle.std.proofs.Common.{◌≡◌, ◌∙◌, ◌≤◌, arith, refl, sym}
use Rattle.values.specs.Limits.{max_batch_rows, max_batch_weight, max_row_weight}
use Rattle.values.specs.Rose.{kids_of}
use Rattle.body_writer.specs.Batch.{row_weight}
use Rattle.stream_writer.specs.Stream.{batch_len}
use Rattle.stream_writer.specs.ViewedRows.{viewed_columns}
use Rattle.stream_writer.proofs.BatchRowLemmas.{rows_from-length}
use Rattle.stream_writer.proofs.ViewLemmas.{fits-all, fits-none, fits-one, light-fit, view-in}
use Rattle.stream_writer.proofs.viewed_rows.count_fitting.Goals as goal

pub weigh_row-weight-requires-clause-light : goal.weigh_row-weight-requires-clause-light
weigh_row-weight-requires-clause-light c =
    let r = c.args.rows.now in
    let least = c.min-most.ensures in
    view-in (λ row. row_weight (kids_of c.args.layouts.now) row ≤ max_row_weight) (viewed_columns r.columns.now) r.from
    r.left c.loop-count.count (omega (arith, c.loop-count-test.true, least)) c.requires.light

pub returns-then-are_light-clause-value : goal.returns-then-are_light-clause-value
unfolding batch_len
returns-then-are_light-clause-value c =
    let r = c.args.rows.now in
    let least = c.min-most.ensures in
    least
    ∙ sym (light-fit (kids_of c.args.layouts.now) (viewed_columns r.columns.now) max_batch_rows max_batch_weight r.from
    r.left (omega arith) (λ k below. c.if-are_light.ensures refl k (omega (arith, least, below))))

pub returns-then-are_light-clause-bound : goal.returns-then-are_light-clause-bound
returns-then-are_light-clause-bound c =
    let r = c.args.rows.now in
    let least = c.min-most.ensures in
    let long = rows_from-length (viewed_columns r.columns.now) r.from r.left in
    omega (arith, least, long)

pub returns-then-room-weight-clause-value : goal.returns-then-room-weight-clause-value
unfolding batch_len
returns-then-room-weight-clause-value c =
    let r = c.args.rows.now in
    let l = c.loop-count in
    let least = c.min-most.ensures in
    sym (fits-none (kids_of c.args.layouts.now) (viewed_columns r.columns.now) max_batch_rows l.count l.room r.from r.left
    c.weigh_row-weight.result (omega (arith, c.loop-count-test.true, least)) c.weigh_row-weight.ensures
    c.if-room-weight.true)
    ∙ l.invariant

pub returns-then-room-weight-clause-bound : goal.returns-then-room-weight-clause-bound
returns-then-room-weight-clause-bound c =
    let r = c.args.rows.now in
    let least = c.min-most.ensures in
    let long = rows_from-length (viewed_columns r.columns.now) r.from r.left in
    omega (arith, c.loop-count-test.true, least, long)

pub loop-count-preserved : goal.loop-count-preserved
loop-count-preserved c =
    let r = c.args.rows.now in
    let l = c.loop-count in
    let least = c.min-most.ensures in
    let below = c.loop-count-test.true in
    fits-one (kids_of c.args.layouts.now) (viewed_columns r.columns.now) max_batch_rows l.count l.room r.from r.left
    c.weigh_row-weight.result (omega (arith, below, least)) (omega (arith, below, least)) c.weigh_row-weight.ensures
    c.if-room-weight.false
    ∙ l.invariant

pub returns-clause-value : goal.returns-clause-value
unfolding batch_len
returns-clause-value c =
    let r = c.args.rows.now in
    let l = c.loop-count in
    let least = c.min-most.ensures in
    let last : c.min-most.result ≡ l.count = omega (arith, c.loop-count-test.false, l.auto.count-end) in
    last
    ∙ sym (fits-all (kids_of c.args.layouts.now) (viewed_columns r.columns.now) max_batch_rows l.count l.room r.from r.left
    (sym last ∙ least))
    ∙ l.invariant

pub returns-clause-bound : goal.returns-clause-bound
returns-clause-bound c =
    let r = c.args.rows.now in
    let least = c.min-most.ensures in
    let long = rows_from-length (viewed_columns r.columns.now) r.from r.left in
    omega (arith, least, long)
