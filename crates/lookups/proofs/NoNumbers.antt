-- Where there are no numbers, they ascend.
use Rattle.std.proofs.Common.{◌≡◌, sym, subst}
use Rattle.std.specs.List.Sorted.{IsStrictlySortedBy}
use Rattle.std.specs.Ordering.{nat_cmp}
use Rattle.std.specs.Prelude.{ℕ, List, []}

empty-ascends : IsStrictlySortedBy nat_cmp []
unfolding IsStrictlySortedBy
empty-ascends = tt

pub none-ascend : (ns : List ℕ) → ns ≡ [] → IsStrictlySortedBy nat_cmp ns
none-ascend ns h = subst (λ (l : List ℕ). IsStrictlySortedBy nat_cmp l) (sym h) empty-ascends

pub ruleset none_ascends = (none-ascend)
