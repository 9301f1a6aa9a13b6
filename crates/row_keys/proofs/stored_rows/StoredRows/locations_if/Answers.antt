use Rattle.std.proofs.Common.{◌≡◌, ◌<◌, ◌∙◌, All, List, [], ap, get_or, length, map, subst, sym}
use Rattle.std.specs.Prelude.{IfSome}
use Rattle.std.proofs.lemmas.Result.{IfOk-weaker}
use Rattle.std.proofs.lemmas.List.Elements.{All-weaker}
use Rattle.std.proofs.lemmas.Option.{IfSome_then}
use Rattle.row_keys.specs.Chunks.{AreChunks, Chunk, row_in}
use Rattle.row_keys.specs.Locations.{row_if}
use Rattle.row_keys.proofs.LocatedRows.{mapped_if}
use Rattle.row_keys.proofs.RunRows.{stored_as}
use Rattle.row_keys.proofs.stored_rows.StoredRows.locations_if.Goals as goal

pub locate_rows_if-requires-clause-chunks : goal.locate_rows_if-requires-clause-chunks
locate_rows_if-requires-clause-chunks c = (
  c.self.inside.len,
  subst (λ (cs : List Chunk). AreChunks 0 cs c.self.inside.len) (sym c.deref.ensures.value) c.self.invariant,
)

pub locate_rows_if-requires-clause-kept : goal.locate_rows_if-requires-clause-kept
locate_rows_if-requires-clause-kept c =
    let cs = c.self.inside.chunks.items in
    let same = stored_as cs c.self.inside.len c.args.self.now c.self.invariant c.self.view_is in
    subst (λ (xs : List Chunk). All (λ o. IfSome o (λ n. 0 < length (row_in xs n))) c.args.numbers.now)
    (sym c.deref.ensures.value)
    (All-weaker (λ o. IfSome o (λ n. 0 < length (get_or c.args.self.now n []))) (λ o. IfSome o (λ n. 0 < length (row_in cs n)))
    (λ o some. IfSome_then o some (λ n h. subst (λ row. 0 < length row) (sym (same n)) h)) c.args.numbers.now c.requires)

pub returns-clause-rows : goal.returns-clause-rows
returns-clause-rows c =
    let cs = c.self.inside.chunks.items in
    let same = stored_as cs c.self.inside.len c.args.self.now c.self.invariant c.self.view_is in
    IfOk-weaker c.locate_rows_if.result _ _
    (λ found rows. rows ∙ ap (λ (xs : List Chunk). map (row_if (row_in xs)) c.args.numbers.now) c.deref.ensures.value
    ∙ mapped_if (row_in cs) (λ n. get_or c.args.self.now n []) c.args.numbers.now same)
    c.locate_rows_if.ensures.rows

pub returns-clause-placed : goal.returns-clause-placed
returns-clause-placed c =
    let cs = c.self.inside.chunks.items in
    let same = stored_as cs c.self.inside.len c.args.self.now c.self.invariant c.self.view_is in
    IfOk-weaker c.locate_rows_if.result _ _
    (λ found placed w wide. placed w
    (subst (λ (xs : List Chunk). All (λ o. IfSome o (λ n. length (row_in xs n) ≡ w)) c.args.numbers.now)
    (sym c.deref.ensures.value)
    (All-weaker (λ o. IfSome o (λ n. length (get_or c.args.self.now n []) ≡ w)) (λ o. IfSome o (λ n. length (row_in cs n) ≡ w))
    (λ o some. IfSome_then o some (λ n size. ap length (same n) ∙ size)) c.args.numbers.now wide)))
    c.locate_rows_if.ensures.placed
