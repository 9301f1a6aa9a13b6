-- Which columns of a table can be written with dictionaries: texts. Such columns are named by their positions, in
-- order.
use Rattle.std.specs.Prelude.{
  ◌≡◌,
  ℕ,
  zero,
  suc,
  ◌<◌,
  ◌==◌,
  Bool,
  All,
  List,
  [],
  ◌∷◌,
}
use Rattle.std.specs.List.{AllPairs, list_any}
use Rattle.values.specs.Rose.{Rose, node}
use Rattle.values.specs.Logical.{NamedType}
use Rattle.values.specs.declared.layout.OffsetWidth.TheVariants as offset
use Rattle.values.specs.declared.col_type.ColType.{ColType}
use Rattle.values.specs.declared.col_type.ColType.TheVariants as stored

-- the type of a column of texts
abbrev pub utf8 : ColType
utf8 = stored.Utf8 offset.Bits32

-- the column at this position is one of the coded ones
abbrev pub is_coded : List ℕ → ℕ → Bool
is_coded coded j = list_any (λ k. k == j) coded

-- the column at this position holds texts
abbrev pub IsTextColumn : List (Rose NamedType) → ℕ → Type 0
IsTextColumn [] j = ⊥
IsTextColumn (node f kids ∷ fs) zero = f.col_type ≡ utf8
IsTextColumn (f ∷ fs) (suc j) = IsTextColumn fs j

-- each is below all later ones
abbrev pub AreAscending : List ℕ → Type 0
AreAscending positions = AllPairs (λ j k. j < k) positions

-- the positions of some columns of texts, in order
pub record AreCoded (coded : List ℕ) (fields : List (Rose NamedType)) : Type 0 where
  pub ascending : AreAscending coded
  pub texts : All (IsTextColumn fields) coded
