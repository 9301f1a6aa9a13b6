use Rattle.std.proofs.Common.{◌≡◌, ◌++◌}
use Rattle.std.specs.List.{All}
use Rattle.std.specs.Map.{values_of}
use Rattle.std.specs.Prelude.{◌<◌}
use Rattle.group_state.specs.Numbers.{numbered}
use Rattle.group_state.proofs.many_numbers.ManyNumbers.to_many.Given as goal

abbrev pub invariant-loop-number : goal.invariant-loop-number
invariant-loop-number l = record {
  so_far : l.many ++ numbered l.number-iterator ≡ l.self;
  present : All (λ n. 0 < n) (values_of (numbered l.number-iterator));
}
