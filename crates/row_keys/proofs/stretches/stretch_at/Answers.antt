use Rattle.std.proofs.Common.{◌≡◌, ◌∙◌, ap, arith, length, refl, sym}
use Rattle.std.proofs.lemmas.Grind.{common_steps}
use Rattle.row_keys.specs.Chunks.{Chunk, in_turn}
use Rattle.row_keys.proofs.StretchRows.{one_stretch, turn_stretch, unlisted_turn}
use Rattle.row_keys.proofs.stretches.stretch_at.Goals as goal

pub returns-then-is_empty : goal.returns-then-is_empty
returns-then-is_empty c =
    let k = c.index-chunks-at.result in
    let inside = c.chunk.inside in
    let none : length inside.numbers.items ≡ 0 = grind (arith, common_steps, c.is_empty.ensures, c.if-is_empty.true) in
    let first = ap (λ (x : Chunk). x.first) c.chunk.view_is in
    let many = ap (λ (x : Chunk). length x.gone) c.chunk.view_is in
    let turn : k.numbers ≡ in_turn k.first (length k.gone) =
    sym (ap (λ (x : Chunk). x.numbers) c.chunk.view_is)
    ∙ unlisted_turn inside.numbers.items inside.first (length inside.gone.items) none
    ∙ ap (λ f. in_turn f (length inside.gone.items)) first ∙ ap (in_turn k.first) many in
    turn_stretch c.requires.chunks.0 c.args.chunks.now c.args.number c.args.at.chunk c.args.at.index c.requires.chunks.1
    c.requires.lies k _ c.index-chunks-at.is turn refl first refl (c.len-rows.ensures.value ∙ many) (omega arith)

pub returns-else-is_empty : goal.returns-else-is_empty
returns-else-is_empty c =
    let many = ap (λ (x : Chunk). length x.gone) c.chunk.view_is in
    let value = c.len-rows.ensures.value in
    one_stretch c.requires.chunks.0 c.args.chunks.now c.args.number c.args.at.chunk c.args.at.index c.requires.chunks.1
    c.requires.lies c.index-chunks-at.result _ c.index-chunks-at.is (omega (arith, many, value)) refl refl refl refl
