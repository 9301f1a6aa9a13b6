use Rattle.std.proofs.Common.{◌∙◌, List, ap, subst, sym}
use Rattle.row_keys.specs.Chunks.{AreChunks, Chunk, stored_rows}
use Rattle.row_keys.proofs.ChunkedRows.{rows_swept}
use Rattle.row_keys.proofs.stored_rows.StoredRows.tidy.Goals as goal

pub invariant_of-self : goal.invariant_of-self
invariant_of-self c =
    let P : List Chunk → Type 0 = λ cs. AreChunks 0 cs c.self.inside.len in
    subst P (sym c.sweep.ensures) (rows_swept c.self.inside.chunks.items c.self.inside.len c.self.invariant).0

pub returns-then-self-len : goal.returns-then-self-len
returns-then-self-len c =
    ap (λ cs. stored_rows cs c.self.inside.len) c.sweep.ensures
    ∙ (rows_swept c.self.inside.chunks.items c.self.inside.len c.self.invariant).1 ∙ c.self.view_is
