use Rattle.std.proofs.Common.{◌∙◌, ap, length, refl, sym}
use Rattle.std.specs.Prelude.{get_or}
use Rattle.std.proofs.lemmas.Option.{get_or_from_slice_get, slice_get_past, slice_get_read}
use Rattle.std.proofs.lemmas.Result.{IfOk-weaker}
use Rattle.values.specs.Datum.{null}
use Rattle.body_writer.specs.Locations.{row_in}
use Rattle.body_writer.proofs.LocatedColumns.{cell-read}
use Rattle.body_writer.proofs.from_locations.cells.copy_cell.Goals as goal

pub returns-in-Some : goal.returns-in-Some
returns-in-Some c =
    let bs = c.args.batches.now in
    let p = c.args.place.now in
    let at = c.in-Some.ensures.lookup in
    let column = c.index.result.now in
    let there = slice_get_read bs (length bs) p.batch c.in-Some.batch.now refl at.3.0 at.1 in
    let read = cell-read c.requires.0 c.args.j bs p c.in-Some.batch.now column c.requires.1 c.requires.2 there
    c.index.ensures in
    IfOk-weaker c.cell.result _ _
    (λ cell value. sym (read ∙ get_or_from_slice_get column.cells p.row cell null value)) c.cell.ensures.value

pub returns-in-None : goal.returns-in-None
returns-in-None c =
    let bs = c.args.batches.now in
    let p = c.args.place.now in
    ap (λ o. get_or (row_in o p.row) c.args.j null) (sym (slice_get_past bs p.batch c.in-None.ensures.lookup.3))
