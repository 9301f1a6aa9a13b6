use Rattle.std.proofs.Common.{◌≡◌, ◌++◌, drop}
use Rattle.view_config.specs.Views.{numbers_of}
use Rattle.view_config.proofs.orders.numbers_of.Given as goal

-- what was gathered, and what is left, are the whole
abbrev pub invariant-loop-by : goal.invariant-loop-by
invariant-loop-by l = l.numbers.items ++ numbers_of (drop l.by-index l.order) ≡ numbers_of l.order
