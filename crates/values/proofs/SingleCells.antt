-- What a cell of a type without children holds.
use Rattle.values.specs.ColTypes.{IsSingle, layout_of}
use Rattle.values.specs.Datum.{Items, list, structure}
use Rattle.values.specs.Layouts.{Holds}
use Rattle.values.specs.Rose.{Roses, node}
use Rattle.values.specs.declared.col_type.ColType.{ColType}
use Rattle.values.specs.declared.col_type.ColType.TheVariants as col
use Rattle.values.specs.declared.layout.Layout.{Layout}

-- Only a type with children holds a list or a struct.

pub no_list : (t : ColType) (kids : Roses Layout) (es : Items) → IsSingle t → Holds (node (layout_of t) kids) (list es) → ⊥
no_list (col.List o) kids es single held = single
no_list col.Struct kids es single held = single
no_list t kids es single held = held

pub no_structure :
    (t : ColType) (kids : Roses Layout) (es : Items) → IsSingle t → Holds (node (layout_of t) kids) (structure es) → ⊥
no_structure (col.List o) kids es single held = single
no_structure col.Struct kids es single held = single
no_structure t kids es single held = held
