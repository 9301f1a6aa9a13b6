use Rattle.std.proofs.Common.{◌∙◌, ◌++◌, ap, arith, get_or, drop, ◌+◌}
use Rattle.values.specs.Datum.{null}
use Rattle.body_writer.specs.Slots.{cells_of}
use Rattle.body_writer.proofs.Rows.{column_at, gather-more, gather-end}
use Rattle.body_writer.proofs.from_values.batch.column_cells.Goals as goal

pub loop-row-preserved : goal.loop-row-preserved
loop-row-preserved c =
    let rows = c.args.rows.now in
    let i = c.loop-row.row-index in
    let read = c.get.ensures.lookup.4 (omega arith) null ∙ ap (λ ds. get_or ds c.args.j null) c.deref.ensures.value in
    let more =
    gather-more c.args.j rows i c.row-item.result c.get.result c.loop-row.cells.items (column_at c.args.j rows)
    c.loop-row-test.true c.row-item.is read c.loop-row.invariant in
    ap (λ os. cells_of os ++ column_at c.args.j (drop (i + 1) rows)) c.in_ok-push.ensures.items ∙ more

pub returns : goal.returns
returns c =
    gather-end c.args.j c.args.rows.now c.loop-row.row-index (cells_of c.loop-row.cells.items)
    (column_at c.args.j c.args.rows.now)
    (omega (arith, c.loop-row-test.false)) c.loop-row.invariant
