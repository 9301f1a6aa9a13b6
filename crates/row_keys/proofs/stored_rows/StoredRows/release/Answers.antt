use Rattle.std.proofs.Common.{◌≡◌, ◌∙◌, List, [], ap, subst, sym}
use Rattle.std.specs.Prelude.{slice_set}
use Rattle.values.specs.Datum.{Datum}
use Rattle.row_keys.specs.Chunks.{Chunk, LiesAt, row_in}
use Rattle.row_keys.proofs.ChunkedRows.{none_goes, row_goes}
use Rattle.row_keys.proofs.stored_rows.StoredRows.release.Goals as goal

pub returns-in_default : goal.returns-in_default
returns-in_default c =
    let P : List Chunk → Type 0 = λ cs. row_in cs c.args.number ≡ [] in
    sym c.self.view_is
    ∙ none_goes c.self.inside.chunks.items c.self.inside.len c.args.number
    (subst P c.deref.ensures.value c.in_default.ensures)
    ∙ ap (λ (rows : List (List Datum)). slice_set rows c.args.number []) c.self.view_is

pub release_at-requires : goal.release_at-requires
release_at-requires c =
    let P : List Chunk → Type 0 = λ cs. LiesAt cs c.args.number c.in-Some.at.chunk c.in-Some.at.index in
    (c.args.number, subst P c.deref.ensures.value c.in-Some.ensures)

pub invariant_of-self : goal.invariant_of-self
invariant_of-self c =
    let P : List Chunk → Type 0 = λ cs. LiesAt cs c.args.number c.in-Some.at.chunk c.in-Some.at.index in
    (row_goes c.self.inside.chunks.items c.release_at.new.chunks.items c.self.inside.len c.args.number
    c.in-Some.at.chunk c.in-Some.at.index c.self.invariant (subst P c.deref.ensures.value c.in-Some.ensures)
    c.release_at.ensures).0

pub invariant_of-self-else-release_at : goal.invariant_of-self-else-release_at
invariant_of-self-else-release_at c =
    let P : List Chunk → Type 0 = λ cs. LiesAt cs c.args.number c.in-Some.at.chunk c.in-Some.at.index in
    (row_goes c.self.inside.chunks.items c.release_at.new.chunks.items c.self.inside.len c.args.number
    c.in-Some.at.chunk c.in-Some.at.index c.self.invariant (subst P c.deref.ensures.value c.in-Some.ensures)
    c.release_at.ensures).0

pub returns-then-release_at : goal.returns-then-release_at
returns-then-release_at c =
    let P : List Chunk → Type 0 = λ cs. LiesAt cs c.args.number c.in-Some.at.chunk c.in-Some.at.index in
    (row_goes c.self.inside.chunks.items c.release_at.new.chunks.items c.self.inside.len c.args.number
    c.in-Some.at.chunk c.in-Some.at.index c.self.invariant (subst P c.deref.ensures.value c.in-Some.ensures)
    c.release_at.ensures).1
    ∙ ap (λ (rows : List (List Datum)). slice_set rows c.args.number []) c.self.view_is

pub returns-else-release_at : goal.returns-else-release_at
returns-else-release_at c =
    let P : List Chunk → Type 0 = λ cs. LiesAt cs c.args.number c.in-Some.at.chunk c.in-Some.at.index in
    (row_goes c.self.inside.chunks.items c.release_at.new.chunks.items c.self.inside.len c.args.number
    c.in-Some.at.chunk c.in-Some.at.index c.self.invariant (subst P c.deref.ensures.value c.in-Some.ensures)
    c.release_at.ensures).1
    ∙ ap (λ (rows : List (List Datum)). slice_set rows c.args.number []) c.self.view_is
