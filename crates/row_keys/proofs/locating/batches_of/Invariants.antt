use Rattle.std.proofs.Common.{take}
use Rattle.row_keys.specs.Locations.{AreBatches}
use Rattle.row_keys.proofs.locating.batches_of.Given as goal

abbrev pub invariant-loop-chunk : goal.invariant-loop-chunk
invariant-loop-chunk l = AreBatches (take l.chunk-index l.chunks) l.batches.items
