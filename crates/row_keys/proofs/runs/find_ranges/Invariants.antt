use Rattle.row_keys.specs.Stretches.{IsStretch}
use Rattle.row_keys.proofs.RunRows.{RunSoFar}
use Rattle.row_keys.proofs.runs.find_ranges.Given as goal

abbrev pub invariant-loop-number : goal.invariant-loop-number
invariant-loop-number l = record {
  so_far : RunSoFar l.chunks l.numbers l.number-index l.ranges.items l.run.chunk l.run.from l.run.to;
  stretch : IsStretch l.chunks l.stretch;
}
