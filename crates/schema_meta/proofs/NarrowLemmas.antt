-- Layouts with offsets of 32 bits hold and weigh what the others do.
use Rattle.std.proofs.Common.{◌≡◌, ◌+◌, [], ◌∷◌, refl, ap, arith}
use Rattle.values.specs.Rose.{Rose, node, Roses, none, more}
use Rattle.values.specs.Datum.{Datum, null, truth, whole, text, bytes, list, structure, Items, no_items, item}
use Rattle.values.specs.Layouts.{
  IsNode,
  IsLayout,
  AreLayouts,
  Holds,
  HoldsAll,
  HoldsEach,
  null_weight,
  null_weights,
  weight,
  items_weight,
  row_weight,
}
use Rattle.values.specs.declared.layout.Layout.{Layout}
use Rattle.values.specs.declared.layout.Layout.TheVariants.{
  Bool as Booleans,
  Int,
  Decimal,
  FixedSizeBinary,
  Utf8,
  Binary,
  List as Listed,
  Struct,
}
use Rattle.values.specs.ColTypes.{layout_of as layout_by}
use Rattle.values.specs.Logical.{narrow, logical_below, trees_of}
use Rattle.values.specs.declared.col_type.ColType.{ColType}
use Rattle.values.specs.declared.col_type.ColType.TheVariants as stored
use Rattle.schema_meta.specs.Entry.{Entry}
use Rattle.schema_meta.specs.FieldLayouts.{layouts_below}
use Rattle.schema_meta.specs.Logical.{named_below}
use Rattle.schema_meta.specs.LogicalLaw.{narrow_layout, narrow_tree, narrow_trees, LogicalTrees}

layout-narrow : (s : ColType) → layout_by (narrow s) ≡ narrow_layout (layout_by s)
layout-narrow stored.Bool = refl
layout-narrow (stored.Int w s) = refl
layout-narrow (stored.Decimal p s) = refl
layout-narrow (stored.Date u) = refl
layout-narrow (stored.Time u) = refl
layout-narrow (stored.Timestamp u z) = refl
layout-narrow (stored.Duration u) = refl
layout-narrow (stored.Utf8 o) = refl
layout-narrow (stored.Binary o) = refl
layout-narrow (stored.FixedSizeBinary w) = refl
layout-narrow (stored.List o) = refl
layout-narrow stored.Struct = refl

below-trees : (s : ColType) (fs : Roses Entry)
    → trees_of (logical_below s (named_below fs)) ≡ narrow_trees (layouts_below fs)
below-trees s none = refl
below-trees s (more (node e kids) fs) =
    let kids-same = below-trees e.stored kids in
    let rest = below-trees s fs in
    let here = layout-narrow e.stored in
    rw (here, kids-same, rest) refl

pub logical-trees : LogicalTrees
logical-trees [] = refl
logical-trees (node e kids ∷ fs) =
    let kids-same = below-trees e.stored kids in
    let rest = logical-trees fs in
    let here = layout-narrow e.stored in
    rw (here, kids-same, rest) refl

node-narrow : (l : Layout) (kids : Roses Layout) → IsNode l kids → IsNode (narrow_layout l) (narrow_trees kids)
node-narrow Booleans none h = tt
node-narrow (Int w s) none h = tt
node-narrow (Decimal p) none h = h
node-narrow (FixedSizeBinary w) none h = tt
node-narrow (Utf8 o) none h = tt
node-narrow (Binary o) none h = tt
node-narrow (Listed o) none h = h
node-narrow (Listed o) (more t none) h = tt
node-narrow (Listed o) (more t (more u ts)) h = h
node-narrow Struct kids h = tt
node-narrow Booleans (more t ts) h = h
node-narrow (Int w s) (more t ts) h = h
node-narrow (Decimal p) (more t ts) h = h
node-narrow (FixedSizeBinary w) (more t ts) h = h
node-narrow (Utf8 o) (more t ts) h = h
node-narrow (Binary o) (more t ts) h = h

mutual
  layout-fits : (t : Rose Layout) → IsLayout t → IsLayout (narrow_tree t)
  layout-fits (node l kids) h = (node-narrow l kids h.0, narrow-fits kids h.1)

  pub narrow-fits : (ls : Roses Layout) → AreLayouts ls → AreLayouts (narrow_trees ls)
  narrow-fits none h = tt
  narrow-fits (more t ts) h = (layout-fits t h.0, narrow-fits ts h.1)

mutual
  pub narrow-holds : (t : Rose Layout) (d : Datum) → Holds t d → Holds (narrow_tree t) d
  narrow-holds (node Booleans kids) d h = h
  narrow-holds (node (Int w s) kids) d h = h
  narrow-holds (node (Decimal p) kids) d h = h
  narrow-holds (node (FixedSizeBinary w) kids) d h = h
  narrow-holds (node (Utf8 o) kids) d h = h
  narrow-holds (node (Binary o) kids) d h = h
  narrow-holds (node (Listed o) kids) null h = tt
  narrow-holds (node (Listed o) kids) (truth b) h = h
  narrow-holds (node (Listed o) kids) (whole z) h = h
  narrow-holds (node (Listed o) kids) (text b) h = h
  narrow-holds (node (Listed o) kids) (bytes b) h = h
  narrow-holds (node (Listed o) kids) (list es) h = narrow-holds-all kids es h
  narrow-holds (node (Listed o) kids) (structure es) h = h
  narrow-holds (node Struct kids) null h = tt
  narrow-holds (node Struct kids) (truth b) h = h
  narrow-holds (node Struct kids) (whole z) h = h
  narrow-holds (node Struct kids) (text b) h = h
  narrow-holds (node Struct kids) (bytes b) h = h
  narrow-holds (node Struct kids) (list es) h = h
  narrow-holds (node Struct kids) (structure es) h = narrow-holds-each kids es h

  narrow-holds-all : (ts : Roses Layout) (es : Items) → HoldsAll ts es → HoldsAll (narrow_trees ts) es
  narrow-holds-all none es h = h
  narrow-holds-all (more t ts) no_items h = tt
  narrow-holds-all (more t ts) (item d es) h = (narrow-holds t d h.0, narrow-holds-all (more t ts) es h.1)

  pub narrow-holds-each : (ls : Roses Layout) (es : Items) → HoldsEach ls es → HoldsEach (narrow_trees ls) es
  narrow-holds-each none no_items h = h
  narrow-holds-each none (item d es) h = h
  narrow-holds-each (more t ts) no_items h = h
  narrow-holds-each (more t ts) (item d es) h = (narrow-holds t d h.0, narrow-holds-each ts es h.1)

mutual
  pub null_weight-narrow : (t : Rose Layout) → null_weight (narrow_tree t) ≡ null_weight t
  null_weight-narrow (node Booleans kids) = refl
  null_weight-narrow (node (Int w s) kids) = refl
  null_weight-narrow (node (Decimal p) kids) = refl
  null_weight-narrow (node (FixedSizeBinary w) kids) = refl
  null_weight-narrow (node (Utf8 o) kids) = refl
  null_weight-narrow (node (Binary o) kids) = refl
  null_weight-narrow (node (Listed o) kids) = refl
  null_weight-narrow (node Struct kids) = ap (λ n. 1 + n) (null_weights-narrow kids)

  null_weights-narrow : (ts : Roses Layout) → null_weights (narrow_trees ts) ≡ null_weights ts
  null_weights-narrow none = refl
  null_weights-narrow (more t ts) = let here = null_weight-narrow t in let rest = null_weights-narrow ts in omega (arith, here, rest)

mutual
  pub narrow-weighs : (t : Rose Layout) (d : Datum) → weight (narrow_tree t) d ≡ weight t d
  narrow-weighs (node Booleans kids) d = refl
  narrow-weighs (node (Int w s) kids) d = refl
  narrow-weighs (node (Decimal p) kids) d = refl
  narrow-weighs (node (FixedSizeBinary w) kids) d = refl
  narrow-weighs (node (Utf8 o) kids) null = refl
  narrow-weighs (node (Utf8 o) kids) (truth b) = refl
  narrow-weighs (node (Utf8 o) kids) (whole z) = refl
  narrow-weighs (node (Utf8 o) kids) (text b) = refl
  narrow-weighs (node (Utf8 o) kids) (bytes b) = refl
  narrow-weighs (node (Utf8 o) kids) (list es) = refl
  narrow-weighs (node (Utf8 o) kids) (structure es) = refl
  narrow-weighs (node (Binary o) kids) null = refl
  narrow-weighs (node (Binary o) kids) (truth b) = refl
  narrow-weighs (node (Binary o) kids) (whole z) = refl
  narrow-weighs (node (Binary o) kids) (text b) = refl
  narrow-weighs (node (Binary o) kids) (bytes b) = refl
  narrow-weighs (node (Binary o) kids) (list es) = refl
  narrow-weighs (node (Binary o) kids) (structure es) = refl
  narrow-weighs (node (Listed o) kids) null = refl
  narrow-weighs (node (Listed o) kids) (truth b) = refl
  narrow-weighs (node (Listed o) kids) (whole z) = refl
  narrow-weighs (node (Listed o) kids) (text b) = refl
  narrow-weighs (node (Listed o) kids) (bytes b) = refl
  narrow-weighs (node (Listed o) kids) (list es) = ap (λ n. 5 + n) (narrow-items-weigh kids es)
  narrow-weighs (node (Listed o) kids) (structure es) = refl
  narrow-weighs (node Struct kids) null = null_weight-narrow (node Struct kids)
  narrow-weighs (node Struct kids) (truth b) = null_weight-narrow (node Struct kids)
  narrow-weighs (node Struct kids) (whole z) = null_weight-narrow (node Struct kids)
  narrow-weighs (node Struct kids) (text b) = null_weight-narrow (node Struct kids)
  narrow-weighs (node Struct kids) (bytes b) = null_weight-narrow (node Struct kids)
  narrow-weighs (node Struct kids) (list es) = null_weight-narrow (node Struct kids)
  narrow-weighs (node Struct kids) (structure es) = ap (λ n. 1 + n) (narrow-row-weighs kids es)

  narrow-items-weigh : (ts : Roses Layout) (es : Items) → items_weight (narrow_trees ts) es ≡ items_weight ts es
  narrow-items-weigh none es = refl
  narrow-items-weigh (more t ts) no_items = refl
  narrow-items-weigh (more t ts) (item d es) =
      let here = narrow-weighs t d in let rest = narrow-items-weigh (more t ts) es in omega (arith, here, rest)

  pub narrow-row-weighs : (ls : Roses Layout) (es : Items) → row_weight (narrow_trees ls) es ≡ row_weight ls es
  narrow-row-weighs none es = refl
  narrow-row-weighs (more t ts) no_items = refl
  narrow-row-weighs (more t ts) (item d es) =
      let here = narrow-weighs t d in let rest = narrow-row-weighs ts es in omega (arith, here, rest)

pub ruleset narrowing = (logical-trees, narrow-fits, narrow-holds, narrow-holds-each, narrow-weighs, narrow-row-weighs)
