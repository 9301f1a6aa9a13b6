use Rattle.std.proofs.Common.{◌≡◌, length}
use Rattle.row_keys.specs.Batches.{batch_rows}
use Rattle.upkeep.specs.Arrivals.{EachDescribes}
use Rattle.upkeep.proofs.arrivals.arrivals_for.Given as goal

abbrev pub invariant-loop-place : goal.invariant-loop-place
invariant-loop-place l = record {
  many : length l.arrivals.items ≡ l.place;
  each : EachDescribes l.views (batch_rows l.rows l.columns) l.arrivals.items;
}
