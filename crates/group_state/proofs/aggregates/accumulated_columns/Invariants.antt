use Rattle.std.proofs.Common.{All, take}
use Rattle.group_state.specs.Aggregates.{AreReadBy, IsAccumulated}
use Rattle.group_state.proofs.aggregates.accumulated_columns.Given as goal

abbrev pub invariant-loop-output : goal.invariant-loop-output
invariant-loop-output l = record {
  kept : All (λ o. IsAccumulated l.columns.items o.aggregate) (take l.output-index l.outputs);
  read : AreReadBy l.outputs l.columns.items;
}
