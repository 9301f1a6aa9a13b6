use Rattle.std.proofs.Common.{◌≡◌, ◌+◌, ◌-◌, ◌∙◌, ap, arith, length}
use Rattle.row_keys.specs.Chunks.{Chunk}
use Rattle.row_keys.proofs.MergedChunks.{span_end, span_fits}
use Rattle.row_keys.proofs.rewriting.span_of.Goals as goal

pub overflow_add-result : goal.overflow_add-result
overflow_add-result c =
    let some = c.requires.some in
    let end : (length c.args.part.now - 1) + 1 ≡ length c.args.part.now = omega (arith, some) in
    let fits = (span_fits c.args.part.now (length c.args.part.now - 1) c.index-part-0.result c.index-part-part.result
    c.requires.part end c.index-part-0.is c.index-part-part.is).0 in
    let first = ap (λ (x : Chunk). x.first) c.last.view_is in
    let span = ap (λ (x : Chunk). x.span) c.last.view_is in
    omega (arith, fits, first, span)

pub overflow_sub-result : goal.overflow_sub-result
overflow_sub-result c =
    let some = c.requires.some in
    let end : (length c.args.part.now - 1) + 1 ≡ length c.args.part.now = omega (arith, some) in
    let fits = (span_fits c.args.part.now (length c.args.part.now - 1) c.index-part-0.result c.index-part-part.result
    c.requires.part end c.index-part-0.is c.index-part-part.is).1 in
    let first = ap (λ (x : Chunk). x.first) c.last.view_is in
    let span = ap (λ (x : Chunk). x.span) c.last.view_is in
    let head = ap (λ (x : Chunk). x.first) c.head.view_is in
    omega (arith, fits, first, span, head)

pub returns : goal.returns
returns c =
    let some = c.requires.some in
    let end : (length c.args.part.now - 1) + 1 ≡ length c.args.part.now = omega (arith, some) in
    span_end c.args.part.now (length c.args.part.now - 1) c.index-part-0.result c.index-part-part.result
    (c.last.inside.first + c.last.inside.span - c.head.inside.first) c.requires.part some end c.index-part-0.is
    c.index-part-part.is
    (ap (λ (x : Chunk). x.first + x.span - c.head.inside.first) c.last.view_is
    ∙ ap (λ (x : Chunk). c.index-part-part.result.first + c.index-part-part.result.span - x.first) c.head.view_is)
