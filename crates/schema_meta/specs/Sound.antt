-- What holds of each message that a framer returns, so that a reader of its body need not check the header again.
use Rattle.std.specs.Prelude.{◌≡◌, ℕ, ◌+◌, ◌≤◌, List, length, Option, None, Some, All, IsSome, IsSomeAnd, true}
use Rattle.values.specs.Limits.{max_batch_length, max_node_length}
use Rattle.values.specs.Rose.{Rose, Roses, roses_size}
use Rattle.values.specs.declared.layout.Layout.{Layout}
use Rattle.values.specs.declared.col_type.ColType.{ColType}
use Rattle.schema_meta.specs.Entry.{Entry}
use Rattle.schema_meta.specs.declared.header.Header.{Header}
use Rattle.schema_meta.specs.declared.header.Header.TheVariants as header
use Rattle.schema_meta.specs.BatchHead.{BatchHead}
use Rattle.array_layout.specs.Placing.{ranges_below}
use Rattle.values.specs.Layouts.{AreLayouts}
use Rattle.schema_meta.specs.declared.header.DictionaryHeader.{DictionaryHeader}
use Rattle.schema_meta.specs.Dictionaries.{value_type}
use Rattle.schema_meta.specs.DictionaryBatch.{counts_after, value_layouts}
use Rattle.schema_meta.specs.FieldLayouts.{slot_layouts_of}
use Rattle.schema_meta.specs.Batch.{lengths_fit}
use Rattle.schema_meta.specs.Stage.{Known, Meta}

-- the header of a batch fits arrays of these layouts, and a body of this length
pub record Fits (ls : Roses Layout) (body : ℕ) (b : BatchHead) : Type 0 where
  pub rows : b.rows ≤ max_batch_length
  pub nodes : length b.nodes ≡ roses_size ls
  pub small : All (λ n. n.length ≤ max_node_length) b.nodes
  pub lengths : lengths_fit b.rows ls b.nodes ≡ true
  pub ranges : length b.ranges ≡ ranges_below ls
  pub within : All (λ s. s.from + s.len ≤ body) b.ranges
  pub layouts : AreLayouts ls

-- the header of a dictionary batch fits the type of its values
pub record FitsValues (fields : List (Rose Entry)) (body : ℕ) (d : DictionaryHeader) : Type 0 where
  pub stored : ColType
  pub type : value_type fields d.id ≡ Some stored
  pub fits : Fits (value_layouts stored) body d.batch

-- a header fits the known fields, and a body of this length
abbrev pub IsFitting : Option (List (Rose Entry)) → Header → ℕ → Type 0
IsFitting schema header.Schema body = IsSome schema
IsFitting schema (header.Dictionary d) body = IsSomeAnd schema (λ fields. FitsValues fields body d)
IsFitting schema (header.Batch b) body = IsSomeAnd schema (λ fields. Fits (slot_layouts_of fields) body b)
IsFitting schema header.End body = IsSome schema

-- the schema that is known once a message is read
abbrev pub schema_after : Option (List (Rose Entry)) → Option (List (Rose Entry)) → Option (List (Rose Entry))
schema_after before None = before
schema_after before (Some fields) = Some fields

-- what is known of a stream after a message
abbrev pub after : Known → Meta → Known
after known m =
    record {
      declared = known.declared;
      schema = schema_after known.schema m.schema;
      counts = counts_after known.counts m.header;
    }
