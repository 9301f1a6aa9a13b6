-- Arrow's Message table (Message.fbs) as a tree.
use Rattle.std.specs.Prelude.{ℕ, [], ◌∷◌}
use Rattle.flatbuf.specs.Tree.{number, table, Nodes, nodes_of}
use Rattle.schema_meta.specs.declared.header.MessageKind.{MessageKind}
use Rattle.schema_meta.specs.declared.header.MessageKind.TheVariants as kind
use Rattle.field_types.specs.SchemaFbs as schema_fbs
use Rattle.schema_meta.specs.MessageFbs as fbs

-- MessageHeader, the union's numbers
abbrev pub header_number : MessageKind → ℕ
header_number kind.Schema = fbs.header_schema
header_number kind.Dictionary = fbs.header_dictionary_batch
header_number kind.Batch = fbs.header_record_batch

-- version V5, the header's kind, the header, the body's length
abbrev pub message_slots : MessageKind → Nodes → ℕ → Nodes
message_slots k header body_len =
    nodes_of (number 2 schema_fbs.v5 ∷ number 1 (header_number k) ∷ table header ∷ number 8 body_len ∷ [])
