use Rattle.std.proofs.Common.{ap, sym}
use Rattle.row_keys.specs.Chunks.{Chunk}
use Rattle.row_keys.proofs.LocatedRows.{batches_all, batches_next}
use Rattle.row_keys.proofs.locating.batches_of.Goals as goal

pub loop-chunk-preserved : goal.loop-chunk-preserved
loop-chunk-preserved c =
    batches_next c.args.chunks.now c.loop-chunk.chunk-index c.chunk-item.result c.loop-chunk.batches.items
    c.push.new.self.items _ c.in_ok-push.ensures.items c.chunk-item.is c.loop-chunk-test.true
    record {
      rows = sym (ap (λ (x : Chunk). x.rows) c.chunk.view_is);
      columns = sym (ap (λ (x : Chunk). x.columns) c.chunk.view_is);
    }
    c.loop-chunk.invariant

pub returns : goal.returns
returns c =
    batches_all c.args.chunks.now c.loop-chunk.chunk-index c.loop-chunk.batches.items c.loop-chunk-test.false
    c.loop-chunk.invariant
