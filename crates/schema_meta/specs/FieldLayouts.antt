-- The layouts of a schema's columns.
use Rattle.std.specs.Prelude.{Bool, true, List, Option, None, Some, ◌&&◌, nat_le}
use Rattle.values.specs.Limits.{max_null_weight}
use Rattle.values.specs.Rose.{Rose, node, Roses, none, more, kids_of}
use Rattle.values.specs.Layouts.{null_weight}
use Rattle.values.specs.declared.layout.Layout.{Layout}
use Rattle.values.specs.declared.layout.Layout.TheVariants.{Int}
use Rattle.values.specs.declared.col_type.ColType.{ColType}
use Rattle.values.specs.ColTypes.{layout_of as layout_by}
use Rattle.schema_meta.specs.declared.encoding.DictionaryEncoding.{DictionaryEncoding}
use Rattle.schema_meta.specs.Entry.{Entry}

-- the layouts of a field's values, and of those below it

abbrev mutual
  pub layout_of : Rose Entry → Rose Layout
  layout_of (node e children) = node (layout_by e.stored) (layouts_below children)

  pub layouts_below : Roses Entry → Roses Layout
  layouts_below none = none
  layouts_below (more f fs) = more (layout_of f) (layouts_below fs)

-- the layouts of the columns' values
abbrev pub layouts_of : List (Rose Entry) → Roses Layout
layouts_of fields = layouts_below (kids_of fields)

-- The layout of a field's own slots: the slots of a field with a dictionary are indices.
abbrev pub slot_layout : Option DictionaryEncoding → ColType → Layout
slot_layout None s = layout_by s
slot_layout (Some c) s = Int c.index.width c.index.signed

abbrev pub own_layout : Rose Entry → Layout
own_layout (node e children) = slot_layout e.encoding e.stored

abbrev mutual
  pub slot_layout_of : Rose Entry → Rose Layout
  slot_layout_of (node e children) = node (slot_layout e.encoding e.stored) (slot_layouts_below children)

  pub slot_layouts_below : Roses Entry → Roses Layout
  slot_layouts_below none = none
  slot_layouts_below (more f fs) = more (slot_layout_of f) (slot_layouts_below fs)

-- the layouts of the arrays of a batch
abbrev pub slot_layouts_of : List (Rose Entry) → Roses Layout
slot_layouts_of fields = slot_layouts_below (kids_of fields)

-- no null weight, at any level, is above 2^20
abbrev mutual
  pub null_weight_fits : Rose Layout → Bool
  null_weight_fits (node l kids) = nat_le (null_weight (node l kids)) max_null_weight && null_weights_fit kids

  pub null_weights_fit : Roses Layout → Bool
  null_weights_fit none = true
  null_weights_fit (more t ts) = null_weight_fits t && null_weights_fit ts
