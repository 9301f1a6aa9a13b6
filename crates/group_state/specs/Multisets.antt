-- What contracts see of a multiset.
use Rattle.std.specs.Prelude.{ℕ, List}
use Rattle.values.specs.declared.key.Key.{Key}
use Rattle.group_state.specs.declared.multiset.Counts.{Counts}
use Rattle.group_state.specs.declared.multiset.Counts.TheVariants.{One, Few, Numbers, Many}
use Rattle.group_state.specs.Numbers.{IsNumber}
use Rattle.group_state.specs.OneValue.{CanTake}

-- the values, with how often each is there
abbrev pub counted_in : Counts → List (Key × ℕ)
counted_in (One es) = es
counted_in (Few es) = es
counted_in (Numbers es) = es
counted_in (Many es) = es

-- A value can be added in this form.
abbrev pub HasRoom : Key → Counts → Type 0
HasRoom k (One es) = CanTake k es
HasRoom k (Numbers es) = IsNumber k
HasRoom k _ = Unit {0}
