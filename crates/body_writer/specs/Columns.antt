-- The canonical buffers of a column, and its nodes (Arrow Columnar Format, "Physical Memory Layout" and "RecordBatch
-- message"): both in preorder, an array's own and then those of its children.
use Rattle.std.specs.Prelude.{ℕ, suc, pos, ◌+◌, ◌==◌, if◌then◌else◌, List, [], ◌∷◌, ◌++◌, length, map}
use Rattle.std.specs.List.{flat_map}
use Rattle.byteorder.specs.Endian.{little_bytes}
use Rattle.bitmaps.specs.Packed.{bytes_of}
use Rattle.values.specs.Rose.{Rose, node, Roses, none, more}
use Rattle.values.specs.Datum.{Datum}
use Rattle.values.specs.declared.layout.OffsetWidth.{OffsetWidth}
use Rattle.values.specs.declared.layout.Layout.{Layout}
use Rattle.values.specs.declared.layout.Layout.TheVariants.{
  Bool as Booleans,
  Int,
  Decimal,
  FixedSizeBinary,
  Utf8,
  Binary,
  List as Listed,
  Struct,
}
use Rattle.values.specs.Layouts.{bytes_in as width_of, offset_bytes}
use Rattle.array_layout.specs.declared.array.FieldNode.{FieldNode}
use Rattle.body_writer.specs.Slots.{
  is_valid,
  null_count,
  truth_in,
  number_in,
  fixed_in,
  bytes_in,
  items_in,
  length_in,
  part,
}

-- the validity buffer: no bytes where nothing is null
unfoldable pub validity : List Datum → List ℕ
validity cs = if null_count cs == 0 then [] else bytes_of (map is_valid cs)

unfoldable pub truths : List Datum → List ℕ
truths cs = bytes_of (map truth_in cs)

-- w bytes for each slot
unfoldable pub numbers : ℕ → List Datum → List ℕ
numbers w cs = flat_map (λ c. little_bytes w (number_in w c)) cs

unfoldable pub fixed : ℕ → List Datum → List ℕ
fixed w cs = flat_map (fixed_in w) cs

-- where runs of these lengths begin, one after the other, and where the last one ends
unfoldable pub offsets_from : OffsetWidth → ℕ → List ℕ → List ℕ
offsets_from o at [] = little_bytes (offset_bytes o) at
offsets_from o at (n ∷ ns) = little_bytes (offset_bytes o) at ++ offsets_from o (at + n) ns

-- the bytes of texts and of bytes, and the items of lists, one after the other

unfoldable pub joined : List Datum → List ℕ
joined cs = flat_map bytes_in cs

unfoldable pub items : List Datum → List Datum
items cs = flat_map items_in cs

unfoldable pub offsets : OffsetWidth → List Datum → List ℕ
offsets o cs = offsets_from o 0 (map length_in cs)

-- the buffers after validity: the offsets, where the layout has them, and the values
abbrev pub value_buffers : Layout → List Datum → List (List ℕ)
value_buffers Booleans cs = truths cs ∷ []
value_buffers (Int w s) cs = numbers (width_of w) cs ∷ []
value_buffers (Decimal p) cs = numbers 16 cs ∷ []
value_buffers (FixedSizeBinary w) cs = fixed w cs ∷ []
value_buffers (Utf8 o) cs = offsets o cs ∷ joined cs ∷ []
value_buffers (Binary o) cs = offsets o cs ∷ joined cs ∷ []
value_buffers (Listed o) cs = offsets o cs ∷ []
value_buffers Struct cs = []

-- the buffers of an array itself, without those of its children
abbrev pub own_buffers : Layout → List Datum → List (List ℕ)
own_buffers l cs = validity cs ∷ value_buffers l cs

-- the cells of child j
abbrev pub child_cells : Layout → ℕ → List Datum → List Datum
child_cells (Listed o) j cs = items cs
child_cells Struct j cs = map (part j) cs
child_cells l j cs = []

abbrev mutual
  pub buffers : Rose Layout → List Datum → List (List ℕ)
  buffers (node l kids) cs = own_buffers l cs ++ buffers_below l 0 kids cs

  -- those of the children from number j on
  pub buffers_below : Layout → ℕ → Roses Layout → List Datum → List (List ℕ)
  buffers_below l j none cs = []
  buffers_below l j (more t ts) cs = buffers t (child_cells l j cs) ++ buffers_below l (suc j) ts cs

abbrev pub own_node : List Datum → FieldNode
own_node cs = record { length = length cs; nulls = pos (null_count cs) }

abbrev mutual
  pub nodes : Rose Layout → List Datum → List FieldNode
  nodes (node l kids) cs = own_node cs ∷ nodes_below l 0 kids cs

  pub nodes_below : Layout → ℕ → Roses Layout → List Datum → List FieldNode
  nodes_below l j none cs = []
  nodes_below l j (more t ts) cs = nodes t (child_cells l j cs) ++ nodes_below l (suc j) ts cs
