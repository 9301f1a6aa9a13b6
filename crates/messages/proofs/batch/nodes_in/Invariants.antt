use Rattle.std.proofs.Common.{◌≡◌, ◌-◌}
use Rattle.values.specs.Reading.{each, with_front}
use Rattle.schema_meta.specs.Batch.{node_of}
use Rattle.messages.proofs.batch.nodes_in.Given as goal

abbrev pub invariant-loop-i : goal.invariant-loop-i
invariant-loop-i l =
    with_front l.nodes.items (each (node_of l.bytes) l.i (l.count - l.i)) ≡ each (node_of l.bytes) 0 l.count
