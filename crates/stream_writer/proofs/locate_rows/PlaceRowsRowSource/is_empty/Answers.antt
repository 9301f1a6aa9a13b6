use Rattle.std.proofs.Common.{◌∙◌, ◌==◌, ap, sym}
use Rattle.stream_writer.proofs.PlaceRowLemmas.{placed-many}
use Rattle.stream_writer.proofs.locate_rows.PlaceRowsRowSource.is_empty.Goals as goal

pub returns : goal.returns
returns c =
    let left = c.args.self.now in
    c.is_empty.ensures ∙ ap (λ n. n == 0) (sym (placed-many left.columns.now left.rows c.requires.1.have))
