use Rattle.row_keys.proofs.GatheredRows.{IsGathered}
use Rattle.row_keys.proofs.rewriting.gather.Given as goal

abbrev pub invariant-loop-chunk : goal.invariant-loop-chunk
invariant-loop-chunk l = IsGathered l.part l.chunk-index l.ranges.items l.numbers.items
