use Rattle.std.proofs.Common.{◌≡◌, take}
use Rattle.group_state.specs.Aggregates.{seen_row}
use Rattle.group_state.proofs.reading.read_row.Given as goal

abbrev pub invariant-loop-output : goal.invariant-loop-output
invariant-loop-output l = l.cells.items ≡ seen_row l.columns (take l.output-index l.outputs) (l.tuple, l.group)
