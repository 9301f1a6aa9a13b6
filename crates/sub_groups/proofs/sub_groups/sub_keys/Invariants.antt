use Rattle.std.proofs.Common.{◌≡◌, take}
use Rattle.sub_groups.specs.SubGroups.{sub_keys}
use Rattle.sub_groups.proofs.sub_groups.sub_keys.Given as goal

abbrev pub invariant-loop-column : goal.invariant-loop-column
invariant-loop-column l = l.keys.items ≡ sub_keys l.fn.width l.fn.lookup (take l.column-index l.by)
