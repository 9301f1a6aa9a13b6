use Rattle.std.proofs.Common.{◌≡◌, ◌+◌, ◌++◌, ◌∷◌, ◌∙◌, ap, drop, refl, subst, take}
use Rattle.row_keys.specs.Chunks.{Chunk, IsShortened}
use Rattle.row_keys.proofs.ChunkedRows.{chunk_read}
use Rattle.row_keys.proofs.Tails.{place_kept, split_list}
use Rattle.row_keys.proofs.stored_rows.split.Goals as goal

pub returns-clause-done : goal.returns-clause-done
returns-clause-done c = λ _.
    let old = c.args.chunks.now.items in
    let x = c.index_mut.result.now in
    let put : c.insert.new.self.items ≡ take (c.args.place + 1) old ++ c.args.tail ∷ drop (c.args.place + 1) old =
    c.in-Ok.ensures.items in
    let same : x ≡ _ =
    c.index_mut.ensures.value
    ∙ place_kept old c.insert.new.self.items c.args.place c.args.tail x c.requires.place put in
    split_list old c.insert.new.self.items _ c.args.place x c.drop_tail.new.chunk c.args.tail
    (chunk_read old c.args.place x same c.requires.place) put refl
    (subst (λ n. IsShortened n x c.drop_tail.new.chunk) (ap (λ (y : Chunk). y.first) c.tail.view_is) c.drop_tail.ensures)
