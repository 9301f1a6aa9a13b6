use Rattle.std.proofs.Common.{◌≡◌, drop}
use Rattle.view_config.specs.Columns.{find}
use Rattle.view_config.proofs.columns.find.Given as goal

abbrev pub invariant-loop-index : goal.invariant-loop-index
invariant-loop-index l = find l.index l.name (drop l.index l.columns) ≡ find 0 l.name l.columns
