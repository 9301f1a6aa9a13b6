-- A batch of two int64 columns with the rows (1, 10), (2, null), (3, 30), as another program wrote it: the definitions
-- give what it means, and the fault of each changed byte.
use Rattle.std.proofs.Common.{
  ◌≡◌,
  ℕ,
  pos,
  true,
  List,
  [],
  ◌∷◌,
  ◌++◌,
  take,
  drop,
  Option,
  None,
  Some,
  Ok,
  Err,
  refl,
  slice_set,
}
use Rattle.flatbuf.specs.Layout.{
  number_at,
  signed_at,
  target_at,
  bytes_at,
  block_at,
  place_of_vtable,
  vtable_at,
  table_at,
  root_of,
  slot_of,
  number_of,
  signed_of,
  structs_of,
  subtable_of,
  vector_at,
  vector_of,
  entry_of,
}
use Rattle.values.specs.Reading.{Reading, each, one}
use Rattle.values.specs.Rose.{Rose, node, none}
use Rattle.values.specs.declared.faults.StreamFault.{StreamFault}
use Rattle.values.specs.declared.faults.StreamFault.TheVariants as fault
use Rattle.values.specs.declared.col_type.ColType.TheVariants as stored
use Rattle.values.specs.declared.layout.IntWidth.TheVariants as int
use Rattle.field_types.specs.Reads.{short_of}
use Rattle.schema_meta.specs.Entry.{Entry}
use Rattle.schema_meta.specs.declared.header.Header.TheVariants as header
use Rattle.schema_meta.specs.BatchHead.{BatchHead}
use Rattle.schema_meta.specs.Batch.{
  long_at,
  node_of,
  range_of,
  rows_of,
  nodes_in,
  nodes_of,
  ranges_in,
  ranges_of,
  plain,
  lengths_fit,
  batch_of,
}
use Rattle.schema_meta.specs.Stage.{Known, Whole}
use Rattle.schema_meta.specs.Story.{fields_of}
use Rattle.schema_meta.specs.Message.{version_of, kind_of, header_table, body_of, record_batch, header_of, meta_of}
use Rattle.schema_meta.specs.Framing.{framed, message_at, staged, first}
use Rattle.messages.specs.MessageSequence.{message_sequence, whole_sequence}

abbrev message : List ℕ
message =
    255 ∷ 255 ∷ 255 ∷ 255 ∷ 200 ∷ 0 ∷ 0 ∷ 0 ∷ 24 ∷ 0 ∷ 0 ∷ 0 ∷ 0 ∷ 0 ∷ 0 ∷ 0 ∷
    12 ∷ 0 ∷ 24 ∷ 0 ∷ 4 ∷ 0 ∷ 6 ∷ 0 ∷ 8 ∷ 0 ∷ 16 ∷ 0 ∷ 0 ∷ 0 ∷ 0 ∷ 0 ∷
    16 ∷ 0 ∷ 0 ∷ 0 ∷ 4 ∷ 0 ∷ 3 ∷ 0 ∷ 32 ∷ 0 ∷ 0 ∷ 0 ∷ 0 ∷ 0 ∷ 0 ∷ 0 ∷
    56 ∷ 0 ∷ 0 ∷ 0 ∷ 0 ∷ 0 ∷ 0 ∷ 0 ∷ 10 ∷ 0 ∷ 24 ∷ 0 ∷ 8 ∷ 0 ∷ 16 ∷ 0 ∷
    20 ∷ 0 ∷ 0 ∷ 0 ∷ 0 ∷ 0 ∷ 0 ∷ 0 ∷ 16 ∷ 0 ∷ 0 ∷ 0 ∷ 0 ∷ 0 ∷ 0 ∷ 0 ∷
    3 ∷ 0 ∷ 0 ∷ 0 ∷ 0 ∷ 0 ∷ 0 ∷ 0 ∷ 12 ∷ 0 ∷ 0 ∷ 0 ∷ 48 ∷ 0 ∷ 0 ∷ 0 ∷
    0 ∷ 0 ∷ 0 ∷ 0 ∷ 2 ∷ 0 ∷ 0 ∷ 0 ∷ 3 ∷ 0 ∷ 0 ∷ 0 ∷ 0 ∷ 0 ∷ 0 ∷ 0 ∷
    0 ∷ 0 ∷ 0 ∷ 0 ∷ 0 ∷ 0 ∷ 0 ∷ 0 ∷ 3 ∷ 0 ∷ 0 ∷ 0 ∷ 0 ∷ 0 ∷ 0 ∷ 0 ∷
    1 ∷ 0 ∷ 0 ∷ 0 ∷ 0 ∷ 0 ∷ 0 ∷ 0 ∷ 0 ∷ 0 ∷ 0 ∷ 0 ∷ 4 ∷ 0 ∷ 0 ∷ 0 ∷
    0 ∷ 0 ∷ 0 ∷ 0 ∷ 0 ∷ 0 ∷ 0 ∷ 0 ∷ 0 ∷ 0 ∷ 0 ∷ 0 ∷ 0 ∷ 0 ∷ 0 ∷ 0 ∷
    0 ∷ 0 ∷ 0 ∷ 0 ∷ 0 ∷ 0 ∷ 0 ∷ 0 ∷ 24 ∷ 0 ∷ 0 ∷ 0 ∷ 0 ∷ 0 ∷ 0 ∷ 0 ∷
    24 ∷ 0 ∷ 0 ∷ 0 ∷ 0 ∷ 0 ∷ 0 ∷ 0 ∷ 1 ∷ 0 ∷ 0 ∷ 0 ∷ 0 ∷ 0 ∷ 0 ∷ 0 ∷
    32 ∷ 0 ∷ 0 ∷ 0 ∷ 0 ∷ 0 ∷ 0 ∷ 0 ∷ 24 ∷ 0 ∷ 0 ∷ 0 ∷ 0 ∷ 0 ∷ 0 ∷ 0 ∷
    1 ∷ 0 ∷ 0 ∷ 0 ∷ 0 ∷ 0 ∷ 0 ∷ 0 ∷ 2 ∷ 0 ∷ 0 ∷ 0 ∷ 0 ∷ 0 ∷ 0 ∷ 0 ∷
    3 ∷ 0 ∷ 0 ∷ 0 ∷ 0 ∷ 0 ∷ 0 ∷ 0 ∷ 5 ∷ 0 ∷ 0 ∷ 0 ∷ 0 ∷ 0 ∷ 0 ∷ 0 ∷
    10 ∷ 0 ∷ 0 ∷ 0 ∷ 0 ∷ 0 ∷ 0 ∷ 0 ∷ 0 ∷ 0 ∷ 0 ∷ 0 ∷ 0 ∷ 0 ∷ 0 ∷ 0 ∷
    30 ∷ 0 ∷ 0 ∷ 0 ∷ 0 ∷ 0 ∷ 0 ∷ 0 ∷ []

abbrev column : ℕ → Rose Entry
column letter =
    node (record { name = letter ∷ []; nullable = true; stored = stored.Int int.Bits64 true; encoding = None }) none

-- a stream whose schema was read, and one of which nothing was read
abbrev open_stream : Known
open_stream = record { declared = None; schema = Some (column 107 ∷ column 118 ∷ []); counts = [] }

abbrev new_stream : Known
new_stream = record { declared = None; schema = None; counts = [] }

abbrev sample_header : BatchHead
sample_header =
    record {
      rows = 3;
      nodes = record { length = 3; nulls = pos 0 } ∷ record { length = 3; nulls = pos 1 } ∷ [];
      ranges =
          record { from = 0; len = 0 } ∷ record { from = 0; len = 24 } ∷ record { from = 24; len = 1 }
          ∷ record { from = 32; len = 24 } ∷ [];
    }

abbrev batch : Whole
batch = record { front = 208; meta = record { header = header.Batch sample_header; body = 56; schema = None } }

abbrev refused : StreamFault → Reading (Option Whole)
refused c = Err (one c)

-- whole, also as V4, and cut where it is not whole yet
pub taken :
    (first open_stream message ≡ Ok (Some batch)) × (first open_stream (slice_set message 36 3) ≡ Ok (Some batch))
    × (first open_stream (message ++ message) ≡ Ok (Some batch))
    × (first open_stream (take 263 message) ≡ Ok None) × (first open_stream (take 207 message) ≡ Ok None)
    × (first open_stream (take 7 message) ≡ Ok None)
unfolding number_at signed_at target_at bytes_at block_at place_of_vtable vtable_at table_at root_of slot_of number_of
    signed_of structs_of subtable_of vector_at vector_of entry_of each long_at node_of range_of rows_of nodes_in
    nodes_of ranges_in ranges_of plain batch_of lengths_fit short_of version_of kind_of header_table body_of
    record_batch header_of meta_of framed message_at staged first
taken = (refl, refl, refl, refl, refl, refl)

-- the mark, the size, the version, the batch's length (which neither node has then), the count of buffers, a buffer's
-- offset; a batch and an end mark before the schema
pub faults :
    (first open_stream (take 8 (slice_set message 0 254)) ≡ refused fault.NoContinuation)
    × (first open_stream (take 8 (slice_set message 7 1)) ≡ refused fault.BadSize)
    × (first open_stream (slice_set message 36 2) ≡ refused fault.Version)
    × (first open_stream (slice_set message 80 4) ≡ refused fault.BadLength)
    × (first open_stream (slice_set message 140 3) ≡ refused fault.BufferCount)
    × (first open_stream (slice_set message 192 33) ≡ refused fault.BufferRange)
    × (first new_stream (take 208 message) ≡ refused fault.NoSchema)
    × (first new_stream (255 ∷ 255 ∷ 255 ∷ 255 ∷ 0 ∷ 0 ∷ 0 ∷ 0 ∷ []) ≡ refused fault.NoSchema)
unfolding number_at signed_at target_at bytes_at block_at place_of_vtable vtable_at table_at root_of slot_of number_of
    signed_of structs_of subtable_of vector_at vector_of entry_of each long_at node_of range_of rows_of nodes_in
    nodes_of ranges_in ranges_of plain batch_of lengths_fit short_of version_of kind_of header_table body_of
    record_batch header_of meta_of framed message_at staged first
faults = (refl, refl, refl, refl, refl, refl, refl, refl)

abbrev end_mark : List ℕ
end_mark = 255 ∷ 255 ∷ 255 ∷ 255 ∷ 0 ∷ 0 ∷ 0 ∷ 0 ∷ []

-- the batch, the end mark, and the beginning of a third message
pub messages :
    whole_sequence open_stream (message ++ (end_mark ++ (255 ∷ 255 ∷ [])))
    ≡ record {
      messages =
          record { schema = fields_of open_stream; header = header.Batch sample_header; body = drop 208 message }
          ∷ record { schema = fields_of open_stream; header = header.End; body = [] } ∷ [];
      rest = Ok (record { known = open_stream; held = 255 ∷ 255 ∷ [] });
    }
unfolding number_at signed_at target_at bytes_at block_at place_of_vtable vtable_at table_at root_of slot_of number_of
    signed_of structs_of subtable_of vector_at vector_of entry_of each long_at node_of range_of rows_of nodes_in
    nodes_of ranges_in ranges_of plain batch_of lengths_fit short_of version_of kind_of header_table body_of
    record_batch header_of meta_of framed message_at staged first message_sequence
messages = refl
