-- The meaning of `==` on types.
use Rattle.std.specs.Prelude.{◌≡◌}
use Rattle.std.specs.Bool.{Decides}
use Rattle.values.specs.declared.col_type.ColType.{ColType}
use Rattle.values.specs.contracts.col_type.ColTypePartialEq.TheImpl as equality

-- that they are the same
abbrev pub TypesAreExact : Type 0
TypesAreExact = (a b : ColType) → Decides (equality.ghosts.eq a b) (a ≡ b)
