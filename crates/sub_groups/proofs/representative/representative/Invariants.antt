use Rattle.std.proofs.Common.{◌≡◌}
use Rattle.sub_groups.specs.Places.{representative}
use Rattle.sub_groups.proofs.representative.representative.Given as goal

abbrev pub invariant-loop-column : goal.invariant-loop-column
invariant-loop-column l = l.row.items ≡ representative l.column l.keys l.tuple
