use Rattle.std.proofs.Common.{◌∙◌, ap, sym}
use Rattle.row_keys.specs.Chunks.{Chunk}
use Rattle.row_keys.proofs.GatheredRows.{gathered_more, next_in}
use Rattle.row_keys.proofs.rewriting.gather.Goals as goal

pub push_ranges-requires-clause-rows : goal.push_ranges-requires-clause-rows
push_ranges-requires-clause-rows c =
    (next_in c.args.part.now c.loop-chunk.chunk-index c.chunk-item.result c.chunk.inside.batch c.as_slice.result.now
    c.requires c.chunk-item.is c.loop-chunk-test.true (sym (ap (λ (x : Chunk). x.rows) c.chunk.view_is))
    (sym (ap (λ (x : Chunk). x.columns) c.chunk.view_is))
    (sym (ap (λ (x : Chunk). x.gone) c.chunk.view_is) ∙ sym c.as_slice.ensures)).few

pub push_numbers-requires-clause-long : goal.push_numbers-requires-clause-long
push_numbers-requires-clause-long c =
    (next_in c.args.part.now c.loop-chunk.chunk-index c.chunk-item.result c.chunk.inside.batch c.as_slice.result.now
    c.requires c.chunk-item.is c.loop-chunk-test.true (sym (ap (λ (x : Chunk). x.rows) c.chunk.view_is))
    (sym (ap (λ (x : Chunk). x.columns) c.chunk.view_is))
    (sym (ap (λ (x : Chunk). x.gone) c.chunk.view_is) ∙ sym c.as_slice.ensures)).long

pub push_numbers-requires-clause-bound : goal.push_numbers-requires-clause-bound
push_numbers-requires-clause-bound c =
    (next_in c.args.part.now c.loop-chunk.chunk-index c.chunk-item.result c.chunk.inside.batch c.as_slice.result.now
    c.requires c.chunk-item.is c.loop-chunk-test.true (sym (ap (λ (x : Chunk). x.rows) c.chunk.view_is))
    (sym (ap (λ (x : Chunk). x.columns) c.chunk.view_is))
    (sym (ap (λ (x : Chunk). x.gone) c.chunk.view_is) ∙ sym c.as_slice.ensures)).bound

pub loop-chunk-preserved : goal.loop-chunk-preserved
loop-chunk-preserved c =
    gathered_more c.args.part.now c.loop-chunk.chunk-index c.chunk-item.result c.chunk.inside.batch c.as_slice.result.now
    c.loop-chunk.ranges.items c.push_ranges.new.ranges.items c.loop-chunk.numbers.items c.push_numbers.new.numbers.items
    (next_in c.args.part.now c.loop-chunk.chunk-index c.chunk-item.result c.chunk.inside.batch c.as_slice.result.now
    c.requires c.chunk-item.is c.loop-chunk-test.true (sym (ap (λ (x : Chunk). x.rows) c.chunk.view_is))
    (sym (ap (λ (x : Chunk). x.columns) c.chunk.view_is))
    (sym (ap (λ (x : Chunk). x.gone) c.chunk.view_is) ∙ sym c.as_slice.ensures))
    c.in_ok-push_ranges.ensures.rows c.in_ok-push_ranges.ensures.ranges c.in_ok-push_numbers.ensures
    c.loop-chunk.invariant
