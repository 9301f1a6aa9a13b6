-- The header of a record batch: Message.fbs, `RecordBatch`, with its structs `FieldNode` and `Buffer`.
use Rattle.std.specs.Prelude.{
  ℕ,
  Bool,
  true,
  ◌&&◌,
  ◌+◌,
  ◌*◌,
  List,
  [],
  length,
  drop,
  Ok,
  Err,
  is_some,
  nat_le,
  ◌==◌,
  if◌then◌else◌,
  unwrap_or,
}
use Rattle.std.specs.Int.{w64, cast_signed}
use Rattle.byteorder.specs.Endian.{little_number}
use Rattle.flatbuf.specs.Layout.{Table, slot_of, structs_of}
use Rattle.values.specs.Limits.{max_batch_length, max_node_length}
use Rattle.values.specs.declared.faults.StreamFault.{StreamFault}
use Rattle.values.specs.declared.faults.StreamFault.TheVariants as fault
use Rattle.values.specs.Reading.{Reading, ◌>>=◌, both, second, must, one, refused_if, each}
use Rattle.values.specs.Rose.{Rose, node, Roses, none, more, rose_size, roses_size}
use Rattle.values.specs.declared.layout.Layout.{Layout}
use Rattle.values.specs.declared.layout.Layout.TheVariants.{Struct}
use Rattle.array_layout.specs.declared.array.FieldNode.{FieldNode}
use Rattle.array_layout.specs.declared.array.BufferRange.{BufferRange}
use Rattle.array_layout.specs.Placing.{node_at, ranges_below}
use Rattle.schema_meta.specs.BatchHead.{BatchHead}
use Rattle.schema_meta.specs.Counts.{count_in}
use Rattle.schema_meta.specs.MessageFbs as fbs

-- the number of 64 bits at an offset
unfoldable pub long_at : List ℕ → ℕ → ℕ
long_at bytes p = little_number 8 (drop p bytes)

-- A node is two numbers of 64 bits: a length below 2^31, which a negative one isn't when it is read without a sign, and
-- a null count.
abbrev pub node_made : List ℕ → ℕ → FieldNode
node_made bytes place = record { length = long_at bytes place; nulls = cast_signed w64 (long_at bytes (place + 8)) }

unfoldable pub node_of : List ℕ → ℕ → Reading FieldNode
node_of bytes i =
    if nat_le (long_at bytes (16 * i)) max_node_length then Ok (node_made bytes (16 * i)) else Err (one fault.BadLength)

-- A buffer is two numbers of 64 bits: an offset in the body, and a length. It lies within the body, which no negative
-- number does when it is read without a sign.
abbrev pub range_within : ℕ → ℕ → ℕ → Reading BufferRange
range_within body from len = if nat_le (from + len) body then Ok (record { from = from; len = len })
    else Err (one fault.BufferRange)

unfoldable pub range_of : ℕ → List ℕ → ℕ → Reading BufferRange
range_of body bytes i = range_within body (long_at bytes (16 * i)) (long_at bytes (16 * i + 8))

-- structs of 16 bytes, as many as the schema requires
abbrev pub counted : StreamFault → ℕ → List ℕ → Reading (List ℕ)
counted c n bytes = if length bytes == 16 * n then Ok bytes else Err (one c)

abbrev pub structs_in : StreamFault → ℕ → Table → ℕ → Reading (List ℕ)
structs_in c n t slot = must fault.BadTable (structs_of 16 t slot) >>= λ found. counted c n (unwrap_or found [])

unfoldable pub rows_of : Table → Reading ℕ
rows_of t = count_in fault.BadLength max_batch_length t fbs.batch_length

unfoldable pub nodes_in : ℕ → List ℕ → Reading (List FieldNode)
nodes_in n bytes = each (node_of bytes) 0 n

-- The child of a struct is at least as long as the struct.
abbrev pub least : Layout → ℕ → ℕ
least Struct n = n
least l n = 0

-- Arrays whose first node is number n, and all arrays below them, are long enough: the first ones have this length at
-- least.
abbrev mutual
  pub is_long : List FieldNode → ℕ → ℕ → Rose Layout → Bool
  is_long nodes n floor (node l kids) =
      nat_le floor (node_at nodes n).length && are_long nodes (n + 1) (least l (node_at nodes n).length) kids

  pub are_long : List FieldNode → ℕ → ℕ → Roses Layout → Bool
  are_long nodes n floor none = true
  are_long nodes n floor (more t ts) = is_long nodes n floor t && are_long nodes (n + rose_size t) floor ts

-- Each column has as many slots as the batch has rows, and all below it are long enough.
abbrev pub columns_fit : List FieldNode → ℕ → ℕ → Roses Layout → Bool
columns_fit nodes n rows none = true
columns_fit nodes n rows (more t ts) =
    (node_at nodes n).length == rows && (is_long nodes n rows t && columns_fit nodes (n + rose_size t) rows ts)

unfoldable pub lengths_fit : ℕ → Roses Layout → List FieldNode → Bool
lengths_fit rows ls nodes = columns_fit nodes 0 rows ls

abbrev pub fitting : ℕ → Roses Layout → List FieldNode → Reading (List FieldNode)
fitting rows ls nodes = if lengths_fit rows ls nodes then Ok nodes else Err (one fault.BadLength)

-- Lengths are checked node by node where the number of nodes is right.
unfoldable pub nodes_of : Roses Layout → ℕ → Table → Reading (List FieldNode)
nodes_of ls rows t = structs_in fault.NodeCount (roses_size ls) t fbs.nodes >>= nodes_in (roses_size ls)
    >>= fitting rows ls

unfoldable pub ranges_in : ℕ → ℕ → List ℕ → Reading (List BufferRange)
ranges_in n body bytes = each (range_of body bytes) 0 n

unfoldable pub ranges_of : ℕ → ℕ → Table → Reading (List BufferRange)
ranges_of n body t = structs_in fault.BufferCount n t fbs.buffers >>= ranges_in n body

-- Compression is refused by its presence, without reading it.
unfoldable pub plain : Table → Reading (Unit {0})
plain t = must fault.BadTable (slot_of t fbs.compression) >>= λ place. refused_if fault.Compressed (is_some place)

abbrev pub batch : ℕ → List FieldNode → List BufferRange → BatchHead
batch rows nodes ranges = record { rows = rows; nodes = nodes; ranges = ranges }

-- The header of a batch of columns with these layouts, and a body of this length. Nodes and buffers are checked where
-- the batch's own length is in range.
unfoldable pub batch_of : Roses Layout → ℕ → Table → Reading BatchHead
batch_of ls body t =
    both second (plain t) (rows_of t
    >>= λ rows. both (batch rows) (nodes_of ls rows t) (ranges_of (ranges_below ls) body t))
