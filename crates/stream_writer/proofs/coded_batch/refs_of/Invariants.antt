use Rattle.std.proofs.Common.{◌≡◌, take}
use Rattle.body_writer.specs.Slots.{cells_of}
use Rattle.stream_writer.proofs.coded_batch.refs_of.Given as goal

abbrev pub invariant-loop-value : goal.invariant-loop-value
invariant-loop-value l = cells_of l.cells.items ≡ take l.value-index l.values
