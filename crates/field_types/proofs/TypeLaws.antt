-- The laws of what is written for a type.
use Rattle.field_types.proofs.TypeSizes.{type-fits, type-is-short}

pub ruleset type_laws = (type-fits, type-is-short)
