use Rattle.std.proofs.Common.{◌≡◌, ◌++◌, drop}
use Rattle.stream_writer.specs.Batch.{range_bytes}
use Rattle.stream_writer.proofs.messages.range_bytes.Given as goal

abbrev pub invariant-loop-range : goal.invariant-loop-range
invariant-loop-range l = l.bytes.items ++ range_bytes (drop l.range-index l.ranges) ≡ range_bytes l.ranges
