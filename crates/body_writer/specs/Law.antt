-- As what written columns are read, how many nodes and buffers they have, and how long they are.
use Rattle.std.specs.Prelude.{◌≡◌, ℕ, suc, ◌+◌, ◌*◌, ◌%◌, ◌<◌, ◌≤◌, All, Ok, List, [], ◌∷◌, ◌++◌, length, map}
use Rattle.values.specs.Limits.{max_body_size, max_batch_weight}
use Rattle.values.specs.Rose.{Rose, node, Roses, none, more, rose_size}
use Rattle.values.specs.Datum.{Datum}
use Rattle.values.specs.declared.layout.Layout.{Layout}
use Rattle.values.specs.declared.layout.Layout.TheVariants.{Struct}
use Rattle.values.specs.Layouts.{AreLayouts, Holds, IsLayout, offset_bound}
use Rattle.array_layout.specs.declared.array.FieldNode.{FieldNode}
use Rattle.array_layout.specs.declared.array.BufferRange.{BufferRange}
use Rattle.array_layout.specs.declared.array.ArrayData.{ArrayData}
use Rattle.array_layout.specs.Placing.{node_at, range_at, bytes_of, ranges_in, ranges_below, placed, placed_all}
use Rattle.array_layout.specs.Sound.{LiesIn, IsPlaced, ArePlaced}
use Rattle.array_layout.specs.Cells.{column_of}
use Rattle.body_writer.specs.Slots.{part}
use Rattle.body_writer.specs.Columns.{buffers, buffers_below, nodes, nodes_below}
use Rattle.body_writer.specs.Body.{laid, ranges_from}
use Rattle.values.specs.Weights.{weights}

-- the nodes from number n on are these
abbrev pub AreNodes : List FieldNode → ℕ → List FieldNode → Type 0
AreNodes all n [] = Unit {0}
AreNodes all n (x ∷ xs) = (node_at all n ≡ x) × AreNodes all (suc n) xs

-- the buffers from number b on lie in the body, and hold these bytes
abbrev pub HoldBuffers : List ℕ → List BufferRange → ℕ → List (List ℕ) → Type 0
HoldBuffers body ranges b [] = Unit {0}
HoldBuffers body ranges b (x ∷ xs) =
    LiesIn body (range_at ranges b) × (bytes_of body (range_at ranges b) ≡ x) × HoldBuffers body ranges (suc b) xs

-- Whatever comes before and after its nodes and buffers, a column's cells are read back, without a fault.
abbrev pub ColumnLaw : Type 0
ColumnLaw =
    (t : Rose Layout) (cs : List Datum) (body : List ℕ) (all : List FieldNode) (ranges : List BufferRange) (n b : ℕ)
    → IsLayout t → All (Holds t) cs
    → weights t cs < offset_bound → AreNodes all n (nodes t cs) → HoldBuffers body ranges b (buffers t cs)
    → column_of body (placed all ranges n b t) ≡ Ok cs

abbrev pub PlacedLaw : Type 0
PlacedLaw =
    (t : Rose Layout) (cs : List Datum) (body : List ℕ) (all : List FieldNode) (ranges : List BufferRange) (n b : ℕ)
    → IsLayout t → All (Holds t) cs
    → weights t cs < offset_bound → AreNodes all n (nodes t cs) → HoldBuffers body ranges b (buffers t cs)
    → IsPlaced body (placed all ranges n b t)

-- as many nodes as the tree has, as many buffers as its layouts require
abbrev pub NodesLaw : Type 0
NodesLaw = (t : Rose Layout) (cs : List Datum) → length (nodes t cs) ≡ rose_size t

abbrev pub BuffersLaw : Type 0
BuffersLaw = (t : Rose Layout) (cs : List Datum) → length (buffers t cs) ≡ ranges_in t

-- the columns of a batch, from column j on, are read as these rows' cells
abbrev pub AreRead : List ℕ → Roses ArrayData → ℕ → List Datum → Type 0
AreRead body none j rows = Unit {0}
AreRead body (more p ps) j rows = (column_of body p ≡ Ok (map (part j) rows)) × AreRead body ps (suc j) rows

-- The columns of a batch are the children of a struct whose cells are the rows: each is read back.
abbrev pub BatchLaw : Type 0
BatchLaw =
    (ts : Roses Layout) (rows : List Datum) (body : List ℕ) (all : List FieldNode) (ranges : List BufferRange) (n b : ℕ)
    → AreLayouts ts
    → All (Holds (node Struct ts)) rows → weights (node Struct ts) rows < offset_bound
    → AreNodes all n (nodes_below Struct 0 ts rows)
    → HoldBuffers body ranges b (buffers_below Struct 0 ts rows)
    → AreRead body (placed_all all ranges n b ts) 0 rows × ArePlaced body (placed_all all ranges n b ts)

-- nodes and buffers that are appended come right after those that were there

abbrev pub NodesAreHeldLaw : Type 0
NodesAreHeldLaw = (before xs after : List FieldNode) → AreNodes (before ++ (xs ++ after)) (length before) xs

abbrev pub BuffersAreHeldLaw : Type 0
BuffersAreHeldLaw =
    (before after : List ℕ) (sb sa : List BufferRange) (xs : List (List ℕ))
    → HoldBuffers (before ++ (laid xs ++ after)) (sb ++ (ranges_from (length before) xs ++ sa)) (length sb) xs

-- each buffer begins at a multiple of 8
abbrev pub AlignedLaw : Type 0
AlignedLaw = (at : ℕ) (xs : List (List ℕ)) → at % 8 ≡ 0 → All (λ (s : BufferRange). s.from % 8 ≡ 0) (ranges_from at xs)

-- The weights bound the bytes with their padding. An offset of 64 bits weighs 4 and takes 8: hence 7 for 4.
abbrev pub SizeLaw : Type 0
SizeLaw =
    (t : Rose Layout) (cs : List Datum) → IsLayout t → All (Holds t) cs
    → 4 * length (laid (buffers t cs)) ≤ 7 * weights t cs + 64 * ranges_in t

-- rows of summed weight 2^27, where the 1 that a struct weighs is not counted for each row
abbrev pub BatchSizeLaw : Type 0
BatchSizeLaw =
    (ts : Roses Layout) (rows : List Datum) → AreLayouts ts → All (Holds (node Struct ts)) rows
    → weights (node Struct ts) rows ≤ max_batch_weight + length rows → ranges_below ts ≤ 4096
    → length (laid (buffers_below Struct 0 ts rows)) ≤ max_body_size
