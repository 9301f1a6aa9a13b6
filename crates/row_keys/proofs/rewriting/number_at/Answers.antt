use Rattle.std.proofs.Common.{◌≡◌, ◌∙◌, ap, arith, get_or, length}
use Rattle.std.proofs.lemmas.Grind.{common_steps}
use Rattle.row_keys.specs.Chunks.{Chunk}
use Rattle.row_keys.proofs.GatheredRows.{unlisted, unlisted_fits}
use Rattle.row_keys.proofs.rewriting.number_at.Goals as goal

pub overflow_add-result : goal.overflow_add-result
overflow_add-result c =
    let bound = c.requires.bound in
    let none : length c.chunk.inside.numbers.items ≡ 0 = grind (arith, common_steps, c.is_empty.ensures, c.if-is_empty.true) in
    let fits = unlisted_fits c.args.chunk.now c.chunk.inside.numbers.items c.chunk.inside.first
    (length c.chunk.inside.gone.items) c.args.index c.requires.long (ap (λ (x : Chunk). x.numbers) c.chunk.view_is)
    (ap (λ (x : Chunk). length x.gone) c.chunk.view_is) none c.requires.within in
    omega (arith, bound, fits)

pub returns-then-is_empty : goal.returns-then-is_empty
returns-then-is_empty c =
    let none : length c.chunk.inside.numbers.items ≡ 0 = grind (arith, common_steps, c.is_empty.ensures, c.if-is_empty.true) in
    let many = ap (λ (x : Chunk). length x.gone) c.chunk.view_is in
    let within = c.requires.within in
    unlisted c.chunk.inside.numbers.items c.chunk.inside.first (length c.chunk.inside.gone.items) c.args.index 0 none
    (omega (arith, many, within))
    ∙ ap (λ (x : Chunk). get_or x.numbers c.args.index 0) c.chunk.view_is
