use Rattle.std.proofs.Common.{◌≡◌, drop}
use Rattle.view_config.specs.Numbers.{is_number_in}
use Rattle.view_config.proofs.groups.is_number_in.Given as goal

abbrev pub invariant-loop-other : goal.invariant-loop-other
invariant-loop-other l = is_number_in (drop l.other-index l.numbers) l.number ≡ is_number_in l.numbers l.number
