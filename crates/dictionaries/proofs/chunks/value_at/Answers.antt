use Rattle.std.proofs.Common.{arith, sym, ◌∙◌}
use Rattle.dictionaries.proofs.JoinLemmas.{in-chunk}
use Rattle.dictionaries.proofs.chunks.value_at.Goals as goal

pub returns-then-left-len : goal.returns-then-left-len
returns-then-left-len c =
    let len = c.len.ensures in
    let below = c.if-left-len.true in
    c.get.ensures
    ∙ sym (in-chunk c.args.chunks.now c.args.i c.loop-chunk.chunk-index c.loop-chunk.left c.values-values.result.now
    c.chunk-item.result c.loop-chunk.invariant c.loop-chunk-test.true
    (c.values-values.ensures ∙ c.chunk-item.is) (omega (arith, len, below)))
