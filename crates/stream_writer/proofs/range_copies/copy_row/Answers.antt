use Rattle.std.proofs.Common.{◌∙◌, get_or, sym}
use Rattle.std.proofs.lemmas.Option.{get_or_from_slice_get}
use Rattle.values.specs.Datum.{null}
use Rattle.schema_meta.specs.Rows.{row_at}
use Rattle.body_writer.specs.RowRanges.{cells_in}
use Rattle.stream_writer.proofs.RangeLemmas.{cell-copied, cell-of}
use Rattle.stream_writer.proofs.range_copies.copy_row.Goals as goal

pub loop-column-preserved : goal.loop-column-preserved
loop-column-preserved c =
    let columns = c.args.columns.now in
    let i = c.loop-column.column-index in
    let column = c.index-cells-column.result in
    let d = c.in_ok-cell.field-0 in
    cell-copied columns i (row_at (cells_in c.args.cells.now) c.args.index) d c.loop-column.row.items c.push.new.self.items
    c.loop-column-test.true
    (sym (cell-of c.args.cells.now (get_or columns i 0) c.args.index column
    (c.requires.below i 0 c.loop-column-test.true) c.index-cells-column.is
    ∙ get_or_from_slice_get column.cells c.args.index d null c.in_ok-cell.ensures.value))
    c.in_ok-push.ensures.items c.loop-column.invariant
