use Rattle.std.proofs.Common.{◌≡◌, replicate}
use Rattle.values.specs.Datum.{null}
use Rattle.upkeep.proofs.sub_group_moves.nulls.Given as goal

abbrev pub invariant-loop : goal.invariant-loop
invariant-loop l = l.row.items ≡ replicate l.counter null
