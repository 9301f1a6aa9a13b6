-- Keys are equal, and are ordered, as the values that they are.
use Rattle.std.specs.Prelude.{◌≡◌}
use Rattle.std.specs.Bool.{Decides}
use Rattle.values.specs.Order.{datum_cmp}
use Rattle.values.specs.Keys.{datum_of_key}
use Rattle.values.specs.declared.key.Key.{Key}
use Rattle.values.specs.contracts.key.KeyPartialEq.TheImpl as equality
use Rattle.values.specs.contracts.key.KeyOrd.TheImpl as order

-- `==` on keys is true where they are the same
abbrev pub KeysAreExact : Type 0
KeysAreExact = (a b : Key) → Decides (equality.ghosts.eq a b) (a ≡ b)

-- `cmp` on keys is the order of the values that they are
abbrev pub KeysAreOrdered : Type 0
KeysAreOrdered = (a b : Key) → order.ghosts.cmp a b ≡ datum_cmp (datum_of_key a) (datum_of_key b)
