use Rattle.std.proofs.Common.{◌≡◌, ◌∙◌, List, [], ap, get_or, subst, sym}
use Rattle.values.specs.Datum.{Datum}
use Rattle.row_keys.specs.Chunks.{Chunk, LiesAt, row_in}
use Rattle.row_keys.proofs.ChunkedRows.{IsRead, row_read, stored_at}
use Rattle.row_keys.proofs.stored_rows.StoredRows.row.Goals as goal

pub returns-in_default : goal.returns-in_default
returns-in_default c =
    let P : List Chunk → Type 0 = λ cs. row_in cs c.args.number ≡ [] in
    c.new.ensures ∙ sym (subst P c.deref.ensures.value c.in_default.ensures)
    ∙ sym (stored_at c.self.inside.chunks.items c.self.inside.len c.args.number c.self.invariant)
    ∙ ap (λ (rows : List (List Datum)). get_or rows c.args.number []) c.self.view_is

pub returns : goal.returns
returns c =
    let P : List Chunk → Type 0 = λ cs. LiesAt cs c.args.number c.in-Some.at.chunk c.in-Some.at.index in
    let at = subst P c.deref.ensures.value c.in-Some.ensures in
    let read : IsRead c.self.inside.chunks.items c.args.number c.in-Some.at.index c.index.result.now =
    row_read c.self.inside.chunks.items c.args.number c.in-Some.at.chunk c.in-Some.at.index c.index.result.now at
    c.index.ensures in
    c.row_of.ensures ∙ sym read.row
    ∙ sym (stored_at c.self.inside.chunks.items c.self.inside.len c.args.number c.self.invariant)
    ∙ ap (λ (rows : List (List Datum)). get_or rows c.args.number []) c.self.view_is
