use Rattle.std.proofs.Common.{◌≡◌, ◌-◌}
use Rattle.values.specs.Reading.{each, with_front}
use Rattle.schema_meta.specs.Batch.{range_of}
use Rattle.messages.proofs.batch.ranges_in.Given as goal

abbrev pub invariant-loop-i : goal.invariant-loop-i
invariant-loop-i l =
    with_front l.ranges.items (each (range_of l.body l.bytes) l.i (l.count - l.i)) ≡ each (range_of l.body l.bytes) 0
    l.count
