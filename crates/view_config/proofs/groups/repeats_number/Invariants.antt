use Rattle.std.proofs.Common.{◌≡◌, drop}
use Rattle.view_config.specs.Numbers.{repeats_number}
use Rattle.view_config.proofs.groups.repeats_number.Given as goal

abbrev pub invariant-loop-index : goal.invariant-loop-index
invariant-loop-index l = repeats_number (drop l.index l.numbers) ≡ repeats_number l.numbers
