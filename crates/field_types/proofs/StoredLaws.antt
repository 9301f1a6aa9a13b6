-- The laws of the types that are supported.

use Rattle.field_types.proofs.Children.{children-fit}

pub ruleset stored_laws = (children-fit)
