-- Where the arrays of a batch lie: Arrow Columnar Format, "RecordBatch message". Nodes and buffers are in preorder over
-- the fields, so the index of each is a count of those before it. docs/ARCHITECTURE.md has a picture of it.
use Rattle.std.specs.Prelude.{ℕ, pos, ◌+◌, List, Option, None, Some, slice_get, slice_range, unwrap_or}
use Rattle.values.specs.Rose.{Rose, node, Roses, none, more, rose_size}
use Rattle.values.specs.declared.layout.Layout.{Layout}
use Rattle.values.specs.declared.layout.Layout.TheVariants.{
  Bool as Booleans,
  Int,
  Decimal,
  FixedSizeBinary,
  Utf8,
  Binary,
  List as Listed,
  Struct,
}
use Rattle.array_layout.specs.declared.array.FieldNode.{FieldNode}
use Rattle.array_layout.specs.declared.array.BufferRange.{BufferRange}
use Rattle.array_layout.specs.declared.array.DictionaryValues.{DictionaryValues}
use Rattle.array_layout.specs.declared.array.ArrayData.{ArrayData}

abbrev pub nowhere : BufferRange
nowhere = record { from = 0; len = 0 }

-- buffer number b, or one of length 0 where there is none
abbrev pub range_at : List BufferRange → ℕ → BufferRange
range_at ranges b = unwrap_or (slice_get ranges b) nowhere

-- node number n, or one of length 0 where there is none
abbrev pub node_at : List FieldNode → ℕ → FieldNode
node_at nodes n = unwrap_or (slice_get nodes n) (record { length = 0; nulls = pos 0 })

-- the bytes of a buffer
abbrev pub bytes_of : List ℕ → BufferRange → List ℕ
bytes_of body s = slice_range body s.from (s.from + s.len)

-- "Buffer Listing for Each Layout": how many buffers an array has without its children
abbrev pub own_ranges : Layout → ℕ
own_ranges Booleans = 2
own_ranges (Int w s) = 2
own_ranges (Decimal p) = 2
own_ranges (FixedSizeBinary w) = 2
own_ranges (Utf8 o) = 3
own_ranges (Binary o) = 3
own_ranges (Listed o) = 2
own_ranges Struct = 1

-- and together with all arrays below it
abbrev mutual
  pub ranges_in : Rose Layout → ℕ
  ranges_in (node l kids) = own_ranges l + ranges_below kids

  pub ranges_below : Roses Layout → ℕ
  ranges_below none = 0
  ranges_below (more t ts) = ranges_in t + ranges_below ts

-- which of its buffers hold its offsets and its values, when validity is buffer number b
abbrev pub offsets_at : Layout → List BufferRange → ℕ → BufferRange
offsets_at (Utf8 o) ranges b = range_at ranges (b + 1)
offsets_at (Binary o) ranges b = range_at ranges (b + 1)
offsets_at (Listed o) ranges b = range_at ranges (b + 1)
offsets_at l ranges b = nowhere

abbrev pub values_at : Layout → List BufferRange → ℕ → BufferRange
values_at Booleans ranges b = range_at ranges (b + 1)
values_at (Int w s) ranges b = range_at ranges (b + 1)
values_at (Decimal p) ranges b = range_at ranges (b + 1)
values_at (FixedSizeBinary w) ranges b = range_at ranges (b + 1)
values_at (Utf8 o) ranges b = range_at ranges (b + 2)
values_at (Binary o) ranges b = range_at ranges (b + 2)
values_at (Listed o) ranges b = nowhere
values_at Struct ranges b = nowhere

-- the data of an array of this layout, without a dictionary, whose node is number n, and whose first buffer is number b
abbrev pub data_at : List FieldNode → List BufferRange → ℕ → ℕ → Layout → ArrayData
data_at nodes ranges n b l = record {
  layout = l;
  dictionary = None;
  len = (node_at nodes n).length;
  nulls = (node_at nodes n).nulls;
  validity = range_at ranges b;
  offsets = offsets_at l ranges b;
  values = values_at l ranges b;
}

-- and with the values of a dictionary, to which its slots are indices
abbrev pub with_dictionary : Option DictionaryValues → ArrayData → ArrayData
with_dictionary w p = record {
  layout = p.layout;
  dictionary = w;
  len = p.len;
  nulls = p.nulls;
  validity = p.validity;
  offsets = p.offsets;
  values = p.values;
}

-- the array of a tree of layouts, its nodes and buffers from these numbers on
abbrev mutual
  pub placed : List FieldNode → List BufferRange → ℕ → ℕ → Rose Layout → Rose ArrayData
  placed nodes ranges n b (node l kids) =
      node (data_at nodes ranges n b l) (placed_all nodes ranges (n + 1) (b + own_ranges l) kids)

  pub placed_all : List FieldNode → List BufferRange → ℕ → ℕ → Roses Layout → Roses ArrayData
  placed_all nodes ranges n b none = none
  placed_all nodes ranges n b (more t ts) =
      more (placed nodes ranges n b t) (placed_all nodes ranges (n + rose_size t) (b + ranges_in t) ts)

-- the layout of the values of an array's cells: where it has a dictionary, that of its values
abbrev pub layout_by : Option DictionaryValues → Layout → Layout
layout_by None l = l
layout_by (Some w) l = w.layout

-- the layouts of an array's values
abbrev mutual
  pub layout_of : Rose ArrayData → Rose Layout
  layout_of (node p kids) = node (layout_by p.dictionary p.layout) (layouts_of kids)

  pub layouts_of : Roses ArrayData → Roses Layout
  layouts_of none = none
  layouts_of (more t ts) = more (layout_of t) (layouts_of ts)
