use Rattle.std.proofs.Common.{◌≡◌, ◌<◌, ◌∙◌, All, List, [], ap, get_or, length, map, subst, sym}
use Rattle.std.proofs.lemmas.Result.{IfOk-weaker}
use Rattle.std.proofs.lemmas.List.Elements.{All-weaker}
use Rattle.row_keys.specs.Chunks.{AreChunks, Chunk, row_in}
use Rattle.row_keys.proofs.RunRows.{mapped_as, stored_as}
use Rattle.row_keys.proofs.stored_rows.StoredRows.locations.Goals as goal

pub locate_rows-requires-clause-chunks : goal.locate_rows-requires-clause-chunks
locate_rows-requires-clause-chunks c = (
  c.self.inside.len,
  subst (λ (cs : List Chunk). AreChunks 0 cs c.self.inside.len) (sym c.deref.ensures.value) c.self.invariant,
)

pub locate_rows-requires-clause-kept : goal.locate_rows-requires-clause-kept
locate_rows-requires-clause-kept c =
    let cs = c.self.inside.chunks.items in
    let same = stored_as cs c.self.inside.len c.args.self.now c.self.invariant c.self.view_is in
    subst (λ (xs : List Chunk). All (λ n. 0 < length (row_in xs n)) c.args.numbers.now) (sym c.deref.ensures.value)
    (All-weaker (λ n. 0 < length (get_or c.args.self.now n [])) (λ n. 0 < length (row_in cs n))
    (λ n some. subst (λ row. 0 < length row) (sym (same n)) some) c.args.numbers.now c.requires)

pub returns-clause-rows : goal.returns-clause-rows
returns-clause-rows c =
    let cs = c.self.inside.chunks.items in
    let same = stored_as cs c.self.inside.len c.args.self.now c.self.invariant c.self.view_is in
    IfOk-weaker c.locate_rows.result _ _
    (λ found rows. rows ∙ ap (λ (xs : List Chunk). map (row_in xs) c.args.numbers.now) c.deref.ensures.value
    ∙ mapped_as (row_in cs) (λ n. get_or c.args.self.now n []) c.args.numbers.now same)
    c.locate_rows.ensures.rows

pub returns-clause-placed : goal.returns-clause-placed
returns-clause-placed c =
    let cs = c.self.inside.chunks.items in
    let same = stored_as cs c.self.inside.len c.args.self.now c.self.invariant c.self.view_is in
    IfOk-weaker c.locate_rows.result _ _
    (λ found placed w wide. placed w
    (subst (λ (xs : List Chunk). All (λ n. length (row_in xs n) ≡ w) c.args.numbers.now) (sym c.deref.ensures.value)
    (All-weaker (λ n. length (get_or c.args.self.now n []) ≡ w) (λ n. length (row_in cs n) ≡ w)
    (λ n size. ap length (same n) ∙ size) c.args.numbers.now wide)))
    c.locate_rows.ensures.placed
