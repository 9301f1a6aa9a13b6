use Rattle.std.proofs.Common.{◌≡◌, ◌++◌, drop}
use Rattle.stream_writer.specs.Batch.{node_bytes}
use Rattle.stream_writer.proofs.messages.node_bytes.Given as goal

abbrev pub invariant-loop-node : goal.invariant-loop-node
invariant-loop-node l = l.bytes.items ++ node_bytes (drop l.node-index l.nodes) ≡ node_bytes l.nodes
