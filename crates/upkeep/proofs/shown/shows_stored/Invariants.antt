use Rattle.std.proofs.Common.{◌<◌, All, take}
use Rattle.upkeep.proofs.shown.shows_stored.Given as goal

abbrev pub invariant-loop-output : goal.invariant-loop-output
invariant-loop-output l = All (λ o. o.column < l.width) (take l.output-index l.outputs)
