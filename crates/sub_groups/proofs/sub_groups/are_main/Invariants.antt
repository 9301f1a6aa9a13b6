use Rattle.std.proofs.Common.{◌≡◌, drop}
use Rattle.sub_groups.specs.SubGroups.{are_main}
use Rattle.sub_groups.proofs.sub_groups.are_main.Given as goal

abbrev pub invariant-loop-column : goal.invariant-loop-column
invariant-loop-column l = are_main l.width (drop l.column-index l.columns) ≡ are_main l.width l.columns
