use Rattle.std.specs.Prelude.{pos}
use Rattle.std.proofs.Common.{◌∙◌, ◌+◌, ap, ◌++◌, drop}
use Rattle.array_layout.specs.declared.array.FieldNode.{FieldNode}
use Rattle.stream_writer.specs.Batch.{node_bytes}
use Rattle.stream_writer.proofs.BatchFits.{nodes-more}
use Rattle.stream_writer.proofs.messages.node_bytes.Goals as goal

pub loop-node-preserved : goal.loop-node-preserved
loop-node-preserved c =
    let zero : FieldNode = record { length = 0; nulls = pos 0 } in
    let i = c.loop-node.node-index in
    ap (λ bytes. bytes ++ node_bytes (drop (i + 1) c.args.nodes.now)) (c.in_ok-extend_from_slice.ensures.items
    ∙ ap (λ bytes. c.loop-node.bytes.items ++ bytes) c.node_pair.ensures)
    ∙ nodes-more c.loop-node.bytes.items c.args.nodes.now i zero c.loop-node-test.true
    ∙ c.loop-node.invariant
