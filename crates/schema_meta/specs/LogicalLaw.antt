-- Logical columns have the layouts of the stored ones, but that all offsets have 32 bits: they hold the same cells,
-- which weigh the same.
use Rattle.std.specs.Prelude.{◌≡◌, List, map}
use Rattle.values.specs.Rose.{Rose, node, Roses, none, more, kids_of}
use Rattle.values.specs.Datum.{Datum, Items}
use Rattle.values.specs.Layouts.{AreLayouts, Holds, HoldsEach, weight, row_weight}
use Rattle.values.specs.declared.layout.OffsetWidth.TheVariants as offset
use Rattle.values.specs.declared.layout.Layout.{Layout}
use Rattle.values.specs.declared.layout.Layout.TheVariants.{
  Bool as Booleans,
  Int,
  Decimal,
  FixedSizeBinary,
  Utf8,
  Binary,
  List as Listed,
  Struct,
}
use Rattle.values.specs.Logical.{trees_of}
use Rattle.schema_meta.specs.Entry.{Entry}
use Rattle.schema_meta.specs.FieldLayouts.{layouts_of}
use Rattle.schema_meta.specs.Logical.{logical_field}

abbrev pub narrow_layout : Layout → Layout
narrow_layout Booleans = Booleans
narrow_layout (Int w s) = Int w s
narrow_layout (Decimal p) = Decimal p
narrow_layout (FixedSizeBinary w) = FixedSizeBinary w
narrow_layout (Utf8 o) = Utf8 offset.Bits32
narrow_layout (Binary o) = Binary offset.Bits32
narrow_layout (Listed o) = Listed offset.Bits32
narrow_layout Struct = Struct

abbrev mutual
  pub narrow_tree : Rose Layout → Rose Layout
  narrow_tree (node l kids) = node (narrow_layout l) (narrow_trees kids)

  pub narrow_trees : Roses Layout → Roses Layout
  narrow_trees none = none
  narrow_trees (more t ts) = more (narrow_tree t) (narrow_trees ts)

-- the layouts of the logical columns
abbrev pub logical_trees : List (Rose Entry) → Roses Layout
logical_trees fields = trees_of (kids_of (map logical_field fields))

abbrev pub LogicalTrees : Type 0
LogicalTrees = (fields : List (Rose Entry)) → logical_trees fields ≡ narrow_trees (layouts_of fields)

abbrev pub NarrowFits : Type 0
NarrowFits = (ls : Roses Layout) → AreLayouts ls → AreLayouts (narrow_trees ls)

abbrev pub NarrowHolds : Type 0
NarrowHolds = (t : Rose Layout) (d : Datum) → Holds t d → Holds (narrow_tree t) d

abbrev pub NarrowHoldsEach : Type 0
NarrowHoldsEach = (ls : Roses Layout) (es : Items) → HoldsEach ls es → HoldsEach (narrow_trees ls) es

abbrev pub NarrowWeighs : Type 0
NarrowWeighs = (t : Rose Layout) (d : Datum) → weight (narrow_tree t) d ≡ weight t d

abbrev pub NarrowRowWeighs : Type 0
NarrowRowWeighs = (ls : Roses Layout) (es : Items) → row_weight (narrow_trees ls) es ≡ row_weight ls es
