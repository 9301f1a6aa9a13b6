use Rattle.std.proofs.Common.{List, arith, false, subst, true}
use Rattle.std.proofs.lemmas.Grind.{common_steps}
use Rattle.row_keys.specs.Chunks.{Chunk, EndsAbove}
use Rattle.row_keys.proofs.ChunkedRows.{cut_end, cut_more, last_is, popped}
use Rattle.row_keys.proofs.stored_rows.cut.Goals as goal

pub loop-chunks-preserved : goal.loop-chunks-preserved
loop-chunks-preserved c =
    let P : List Chunk → Type 0 = λ cs. EndsAbove cs c.args.len true in
    let last = subst P c.deref.ensures.value c.loop-chunks-test.ensures in
    cut_more c.args.chunks.now.items c.loop-chunks.chunks.items c.pop.new.self.items c.args.len last.1
    c.loop-chunks.invariant
    (popped c.loop-chunks.chunks.items c.pop.new.self.items last.0 last.1 _ c.loop-chunks.chunks.ok.0
    c.pop.ensures.rest last.2)
    last.3

pub shorten-requires-clause-below : goal.shorten-requires-clause-below
shorten-requires-clause-below c =
    let P : List Chunk → Type 0 = λ cs. EndsAbove cs c.args.len false in
    (last_is c.args.chunks.now.items c.loop-chunks.chunks.items c.args.len c.len-last.result c.index_mut.result.now
    c.loop-chunks.invariant (subst P c.deref.ensures.value c.loop-chunks-test.ensures)
    (grind (arith, common_steps, c.len-last.ensures))
    (grind (arith, common_steps, c.len-last.ensures, c.is_empty.ensures, c.if-not-is_empty.ensures))
    c.index_mut.ensures.value).below

pub shorten-requires-clause-long : goal.shorten-requires-clause-long
shorten-requires-clause-long c =
    let P : List Chunk → Type 0 = λ cs. EndsAbove cs c.args.len false in
    (last_is c.args.chunks.now.items c.loop-chunks.chunks.items c.args.len c.len-last.result c.index_mut.result.now
    c.loop-chunks.invariant (subst P c.deref.ensures.value c.loop-chunks-test.ensures)
    (grind (arith, common_steps, c.len-last.ensures))
    (grind (arith, common_steps, c.len-last.ensures, c.is_empty.ensures, c.if-not-is_empty.ensures))
    c.index_mut.ensures.value).long

pub returns-then-not-is_empty : goal.returns-then-not-is_empty
returns-then-not-is_empty c =
    let P : List Chunk → Type 0 = λ cs. EndsAbove cs c.args.len false in
    cut_end c.args.chunks.now.items c.loop-chunks.chunks.items c.args.len c.len-last.result c.index_mut.result.now
    c.shorten.new.chunk c.loop-chunks.invariant (subst P c.deref.ensures.value c.loop-chunks-test.ensures)
    (grind (arith, common_steps, c.len-last.ensures))
    (grind (arith, common_steps, c.len-last.ensures, c.is_empty.ensures, c.if-not-is_empty.ensures))
    c.index_mut.ensures.value c.shorten.ensures
