use Rattle.row_keys.proofs.ChunkedRows.{lies_nowhere_in, located}
use Rattle.row_keys.proofs.stored_rows.index_in.Goals as goal

pub returns-in_err-index : goal.returns-in_err-index
returns-in_err-index c =
    rw c.from_residual.ensures
    (lies_nowhere_in c.args.chunks.now c.args.number c.args.place c.index-chunks-place.result
    c.requires c.index-chunks-place.is c.in_err-index.ensures)

pub returns : goal.returns
returns c =
    located c.args.chunks.now c.args.number c.args.place c.in_ok-index.index c.index-chunks-place.result
    c.requires c.index-chunks-place.is c.in_ok-index.ensures
