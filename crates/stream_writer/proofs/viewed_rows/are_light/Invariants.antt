use Rattle.std.proofs.Common.{◌≤◌}
use Rattle.stream_writer.specs.BatchRows.{max_light_row}
use Rattle.stream_writer.proofs.ViewLemmas.{IsLightSoFar}
use Rattle.stream_writer.proofs.viewed_rows.are_light.Given as goal

abbrev pub invariant-loop-j : goal.invariant-loop-j
invariant-loop-j l = record {
  light : IsLightSoFar l.layouts l.rows.columns.now l.rows.from l.count l.j l.sum;
  small : l.sum ≤ max_light_row;
}
