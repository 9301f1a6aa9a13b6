use Rattle.std.proofs.Common.{[], get_or}
use Rattle.stream_writer.specs.JoinedRows.{joined_rows}
use Rattle.stream_writer.proofs.PlaceRowLemmas.{cell-found, column-found, locations-many}
use Rattle.stream_writer.proofs.RangeLemmas.{cell-copied}
use Rattle.stream_writer.proofs.joined_copies.copy_row.Goals as goal

pub copy_at-requires-clause-have : goal.copy_at-requires-clause-have
copy_at-requires-clause-have c =
    column-found c.args.columns.now c.args.rows.now c.loop-column.column-index c.place_of.result c.half-half.result.now
    c.requires.have c.loop-column-test.true c.half-half.ensures c.place_of.ensures

pub copy_at-requires-clause-below : goal.copy_at-requires-clause-below
copy_at-requires-clause-below c =
    locations-many c.args.columns.now c.args.rows.now c.loop-column.column-index c.args.index c.half-half.result.now
    c.requires.have c.half-half.ensures c.requires.below

pub loop-column-preserved : goal.loop-column-preserved
loop-column-preserved c =
    let columns = c.args.columns.now in
    let r = c.args.rows.now in
    let i = c.loop-column.column-index in
    let d = c.in_ok-copy_at.field-0 in
    cell-copied columns i (get_or (joined_rows r) c.args.index []) d c.loop-column.row.items c.push.new.self.items
    c.loop-column-test.true
    (cell-found columns r i c.args.index c.place_of.result c.half-half.result.now d c.requires.have c.half-half.ensures
    c.place_of.ensures c.requires.below c.in_ok-copy_at.ensures)
    c.in_ok-push.ensures.items c.loop-column.invariant
