use Rattle.std.proofs.Common.{◌∙◌, ap, arith}
use Rattle.std.specs.Prelude.{slice_set}
use Rattle.row_keys.proofs.MergedChunks.{put_in_place}
use Rattle.row_keys.proofs.stored_rows.replace.Goals as goal

pub returns : goal.returns
returns c =
    let low = c.loop-last.invariant.1 in
    let end = c.loop-last-test.false in
    ap (λ m. slice_set c.loop-last.chunks.items c.args.from m) c.put_chunk.ensures
    ∙ put_in_place c.args.chunks.now.items c.loop-last.chunks.items c.loop-last.last c.args.from c.args.to c.args.chunk
    c.requires.order c.requires.within (omega (arith, low, end)) c.loop-last.invariant.0
