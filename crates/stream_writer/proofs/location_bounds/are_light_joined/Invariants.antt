use Rattle.std.proofs.Common.{◌≤◌}
use Rattle.stream_writer.specs.BatchRows.{max_light_row}
use Rattle.stream_writer.specs.JoinedRows.{joined_rows}
use Rattle.stream_writer.proofs.PlaceBoundLemmas.{AreLightSoFar}
use Rattle.stream_writer.proofs.location_bounds.are_light_joined.Given as goal

abbrev pub invariant-loop-j : goal.invariant-loop-j
invariant-loop-j l = record {
  light : AreLightSoFar l.layouts l.columns (joined_rows l.rows) l.j l.sum;
  small : l.sum ≤ max_light_row;
}
