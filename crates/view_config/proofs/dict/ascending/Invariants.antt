use Rattle.std.proofs.Common.{◌≡◌}
use Rattle.view_config.specs.Dict.{ascending}
use Rattle.view_config.proofs.dict.ascending.Given as goal

abbrev pub invariant-loop-number : goal.invariant-loop-number
invariant-loop-number l = l.sorted.items ≡ ascending l.numbers l.number
