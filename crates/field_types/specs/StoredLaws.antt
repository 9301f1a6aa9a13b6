-- What holds of the types that are supported.
use Rattle.std.specs.Prelude.{◌≡◌, ◌↔◌, ℕ, suc, true, Ok}
use Rattle.flatbuf.specs.Layout.{Table}
use Rattle.values.specs.Rose.{Roses, none, more}
use Rattle.values.specs.Layouts.{IsNode}
use Rattle.values.specs.declared.layout.Layout.{Layout}
use Rattle.field_types.specs.declared.kinds.TypeKind.{TypeKind}
use Rattle.values.specs.declared.col_type.ColType.{ColType}
use Rattle.field_types.specs.Kinds.{may_have, kind_of_type}
use Rattle.field_types.specs.Types.{type_of}
use Rattle.values.specs.ColTypes.{IsType, layout_of}

-- what is read is a type, and of the kind that it was read as
abbrev pub ReadIsType : Type 0
ReadIsType = (k : TypeKind) (t : Table) (s : ColType) → type_of k t ≡ Ok s → IsType s × (kind_of_type s ≡ k)

abbrev pub kids_count : {A : Type 0} → Roses A → ℕ
kids_count none = 0
kids_count (more t ts) = suc (kids_count ts)

-- the number of children that a field may have is that of its layout
abbrev pub ChildrenFit : Type 0
ChildrenFit =
    (s : ColType) → IsType s → (kids : Roses Layout)
    → IsNode (layout_of s) kids ↔ (may_have (kind_of_type s) (kids_count kids) ≡ true)
