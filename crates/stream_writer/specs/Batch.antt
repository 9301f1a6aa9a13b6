-- Arrow's RecordBatch table (Message.fbs) as a tree, and its message's metadata.
use Rattle.std.specs.Prelude.{ℕ, List, [], ◌∷◌, ◌++◌, length}
use Rattle.std.specs.List.{flat_map}
use Rattle.std.specs.Int.{w64}
use Rattle.byteorder.specs.Endian.{little_bytes, low_bytes}
use Rattle.flatbuf.specs.Tree.{Nodes, nodes_of, number, structs}
use Rattle.flatbuf.specs.Written.{whole}
use Rattle.values.specs.Datum.{Datum}
use Rattle.values.specs.Rose.{Roses}
use Rattle.values.specs.declared.layout.Layout.{Layout}
use Rattle.schema_meta.specs.declared.header.MessageKind.TheVariants as kind
use Rattle.schema_meta.specs.MessageTree.{message_slots}
use Rattle.body_writer.specs.Batch.{body_bytes, body_nodes, body_ranges}
use Rattle.array_layout.specs.declared.array.FieldNode.{FieldNode}
use Rattle.array_layout.specs.declared.array.BufferRange.{BufferRange}

-- FieldNode: length, null_count
abbrev pub node_bytes : List FieldNode → List ℕ
node_bytes ns = flat_map (λ n. little_bytes 8 n.length ++ little_bytes 8 (low_bytes w64 8 n.nulls)) ns

-- Buffer: offset, length
abbrev pub range_bytes : List BufferRange → List ℕ
range_bytes ss = flat_map (λ s. little_bytes 8 s.from ++ little_bytes 8 s.len) ss

-- length, nodes, buffers
abbrev pub batch_slots : ℕ → List FieldNode → List BufferRange → Nodes
batch_slots rows nodes ranges =
    nodes_of (number 8 rows ∷ structs 16 (node_bytes nodes) ∷ structs 16 (range_bytes ranges) ∷ [])

-- the metadata of a batch, from its number of rows, its nodes and buffer ranges, and the length of its body
abbrev pub batch_whole : ℕ → List FieldNode → List BufferRange → ℕ → List ℕ
batch_whole rows nodes ranges body_len = whole (message_slots kind.Batch (batch_slots rows nodes ranges) body_len)

unfoldable pub batch_metadata : Roses Layout → List (List Datum) → List ℕ
batch_metadata ls rows =
    batch_whole (length rows) (body_nodes ls rows) (body_ranges ls rows) (length (body_bytes ls rows))
