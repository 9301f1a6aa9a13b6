use Rattle.std.proofs.Common.{◌∙◌, ap, arith, sym, take}
use Rattle.row_keys.proofs.ChunkedRows.{rows_cut, rows_whole}
use Rattle.row_keys.proofs.stored_rows.StoredRows.truncate.Goals as goal

pub returns-then-len-self : goal.returns-then-len-self
returns-then-len-self c =
    rows_cut c.self.inside.chunks.items c.cut.new.chunks.items c.self.inside.len c.args.len (omega arith) c.cut.ensures
    ∙ ap (λ rows. take c.args.len rows) c.self.view_is

pub returns-else-len-self : goal.returns-else-len-self
returns-else-len-self c =
    sym c.self.view_is
    ∙ rows_whole c.self.inside.chunks.items c.self.inside.len c.args.len (omega arith)
    ∙ ap (λ rows. take c.args.len rows) c.self.view_is
