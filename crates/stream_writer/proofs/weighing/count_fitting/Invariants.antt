use Rattle.std.proofs.Common.{◌≡◌, ◌≤◌, ◌+◌, ◌-◌, drop}
use Rattle.values.specs.Limits.{max_batch_rows, max_batch_weight}
use Rattle.stream_writer.specs.Weights.{fitting}
use Rattle.stream_writer.proofs.weighing.count_fitting.Given as goal

abbrev pub invariant-loop-weight : goal.invariant-loop-weight
invariant-loop-weight l = record {
  index : l.count ≡ l.weight-index;
  few : l.count ≤ max_batch_rows;
  value : l.count + fitting (max_batch_rows - l.count) l.room (drop l.weight-index l.weights)
      ≡ fitting max_batch_rows max_batch_weight l.weights;
}
