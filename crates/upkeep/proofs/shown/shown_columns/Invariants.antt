use Rattle.std.proofs.Common.{◌≡◌, map, take}
use Rattle.upkeep.proofs.shown.shown_columns.Given as goal

abbrev pub invariant-loop-output : goal.invariant-loop-output
invariant-loop-output l = l.columns.items ≡ map (λ o. o.column) (take l.output-index l.outputs)
