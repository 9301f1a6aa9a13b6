use Rattle.std.proofs.Common.{◌+◌, ◌≤◌}
use Rattle.values.specs.Layouts.{null_weight}
use Rattle.values.specs.Limits.{max_cell_weight}
use Rattle.stream_writer.proofs.PlaceBoundLemmas.{BoundsFirst}
use Rattle.stream_writer.proofs.location_bounds.bound_column.Given as goal

abbrev pub invariant-loop-batch : goal.invariant-loop-batch
invariant-loop-batch l = record {
  bound : BoundsFirst l.layout l.j l.batches l.batch-index l.most;
  small : l.most ≤ max_cell_weight + 4;
  least : null_weight l.layout ≤ l.most;
}
