use Rattle.std.proofs.Common.{ap, arith}
use Rattle.row_keys.specs.Chunks.{Chunk}
use Rattle.row_keys.proofs.ChunkedRows.{chunk_read}
use Rattle.row_keys.proofs.RunRows.{near_lies}
use Rattle.row_keys.proofs.runs.chunk_near.Goals as goal

pub returns-then-number-chunk-2 : goal.returns-then-number-chunk-2
returns-then-number-chunk-2 c =
    let there = chunk_read c.args.chunks.now c.args.near c.index-chunks-near.result c.index-chunks-near.is (omega arith) in
    let first = ap (λ (x : Chunk). x.first) c.chunk.view_is in
    let many = ap (λ (x : Chunk). x.span) c.chunk.view_is in
    near_lies 0 c.requires.0 c.args.chunks.now c.args.near c.args.number c.index-chunks-near.result c.requires.1 there
    (omega (arith, first)) (omega (arith, first, many))
