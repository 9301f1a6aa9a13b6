use Rattle.std.proofs.Common.{◌≡◌, drop}
use Rattle.view_config.specs.Numbers.{place_of}
use Rattle.view_config.proofs.aggregates.place_of.Given as goal

abbrev pub invariant-loop-index : goal.invariant-loop-index
invariant-loop-index l = place_of l.index l.number (drop l.index l.numbers) ≡ place_of 0 l.number l.numbers
