use Rattle.std.proofs.Common.{◌∙◌, sym}
use Rattle.std.proofs.lemmas.Result.{IfOk-weaker}
use Rattle.body_writer.proofs.LocatedColumns.{placed-item}
use Rattle.stream_writer.proofs.JoinedLemmas.{column-cell}
use Rattle.stream_writer.proofs.joined_copies.copy_at.Goals as goal

pub copy_cell-requires : goal.copy_cell-requires
copy_cell-requires c =
    let r = c.args.rows.now in
    let have = c.requires.have in (
      have.width,
      have.below,
      placed-item have.width r.batches.now r.locations.now c.args.index _ have.placed c.requires.below,
    )

pub returns : goal.returns
returns c =
    IfOk-weaker c.copy_cell.result _ _
    (λ cell is. is ∙ sym (column-cell c.args.j c.args.rows.now c.args.index _ c.requires.below)) c.copy_cell.ensures
