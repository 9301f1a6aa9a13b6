-- Arrow's DictionaryBatch table (Message.fbs) as a tree, and its message's metadata.
use Rattle.std.specs.Prelude.{ℕ, List, [], ◌∷◌, length}
use Rattle.flatbuf.specs.Tree.{Nodes, nodes_of, number, table}
use Rattle.flatbuf.specs.Written.{whole}
use Rattle.values.specs.Rose.{Roses}
use Rattle.values.specs.declared.layout.Layout.{Layout}
use Rattle.array_layout.specs.declared.array.FieldNode.{FieldNode}
use Rattle.array_layout.specs.declared.array.BufferRange.{BufferRange}
use Rattle.values.specs.Coded.{utf8}
use Rattle.schema_meta.specs.DictionaryBatch.{value_layouts}
use Rattle.schema_meta.specs.declared.header.MessageKind.TheVariants as kind
use Rattle.schema_meta.specs.MessageTree.{message_slots}
use Rattle.body_writer.specs.Batch.{body_bytes, body_nodes, body_ranges}
use Rattle.stream_writer.specs.Batch.{batch_slots}
use Rattle.stream_writer.specs.Coding.{value_rows}

-- the id, the values' record batch, no delta
abbrev pub dictionary_slots : ℕ → Nodes → Nodes
dictionary_slots id values = nodes_of (number 8 id ∷ table values ∷ number 1 0 ∷ [])

-- the metadata of a dictionary batch, from the id, its number of values, its nodes and buffer ranges, and the length of
-- its body
abbrev pub dictionary_whole : ℕ → ℕ → List FieldNode → List BufferRange → ℕ → List ℕ
dictionary_whole id count nodes ranges body_len =
    whole (message_slots kind.Dictionary (dictionary_slots id (batch_slots count nodes ranges)) body_len)

-- the one column, of texts
abbrev pub text_layouts : Roses Layout
text_layouts = value_layouts utf8

abbrev pub values_body : List (List ℕ) → List ℕ
values_body values = body_bytes text_layouts (value_rows values)

unfoldable pub dictionary_metadata : ℕ → List (List ℕ) → List ℕ
dictionary_metadata id values =
    dictionary_whole id (length (value_rows values)) (body_nodes text_layouts (value_rows values))
    (body_ranges text_layouts (value_rows values)) (length (values_body values))
