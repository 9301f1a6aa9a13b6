-- What is retained of the bytes that a feed consumed. docs/ARCHITECTURE.md has a picture of it.
use Rattle.std.specs.Prelude.{ℕ, zero, suc, List, [], ◌∷◌, ◌++◌, Option, None, Some, Ok, Err, length, drop, slice_range}
use Rattle.values.specs.Datum.{Datum}
use Rattle.values.specs.Reading.{Reading}
use Rattle.values.specs.Rose.{Rose}
use Rattle.values.specs.Logical.{NamedType}
use Rattle.dictionaries.specs.Batches.{DictionaryBatch, batch}
use Rattle.schema_meta.specs.Entry.{Entry}
use Rattle.schema_meta.specs.declared.header.DictionaryHeader.{DictionaryHeader}
use Rattle.schema_meta.specs.declared.header.Header.{Header}
use Rattle.schema_meta.specs.declared.header.Header.TheVariants as header
use Rattle.schema_meta.specs.Framing.{first}
use Rattle.schema_meta.specs.Rows.{values_of}
use Rattle.schema_meta.specs.SchemaLaw.{before}
use Rattle.schema_meta.specs.Sound.{after}
use Rattle.schema_meta.specs.Stage.{Known, Whole, end_of}
use Rattle.schema_meta.specs.Story.{fields_of}
use Rattle.messages.specs.Stream.{Stream}

-- what is known of the stream, its dictionary batches so far, and the bytes of a message that isn't whole yet
pub record Retained : Type 0 where
  pub known : Known
  pub dictionaries : List DictionaryBatch
  pub held : List ℕ

-- the stream between two pieces, as the framing has it
abbrev pub stream_in : Retained → Stream
stream_in k = record { known = k.known; held = k.held }

abbrev pub taken : DictionaryHeader → Reading (List Datum) → List DictionaryBatch
taken d (Ok values) = batch d.id d.is_delta values ∷ []
taken d (Err fs) = []

-- the dictionary batch in a message, if there is one
abbrev pub brought_by : List (Rose Entry) → List ℕ → Header → List DictionaryBatch
brought_by fields body header.Schema = []
brought_by fields body (header.Dictionary d) = taken d (values_of fields d body)
brought_by fields body (header.Batch b) = []
brought_by fields body header.End = []

abbrev pub brought : Known → List ℕ → Whole → List DictionaryBatch
brought known bytes w = brought_by (fields_of known) (slice_range bytes w.front (end_of w)) w.meta.header

abbrev pub retained_after : (Known → List DictionaryBatch → List ℕ → Retained) → Known → List DictionaryBatch → List ℕ
    → Reading (Option Whole) → Retained
retained_after next known ds bytes (Ok (Some w)) =
    next (after known w.meta) (ds ++ brought (after known w.meta) bytes w) (drop (end_of w) bytes)
retained_after next known ds bytes (Ok None) = record { known = known; dictionaries = ds; held = bytes }
retained_after next known ds bytes (Err fs) = record { known = known; dictionaries = ds; held = bytes }

-- what is retained after these bytes, of which at most n messages are read
unfoldable pub retained : ℕ → Known → List DictionaryBatch → List ℕ → Retained
retained zero known ds bytes = record { known = known; dictionaries = ds; held = bytes }
retained (suc n) known ds bytes = retained_after (retained n) known ds bytes (first known bytes)

-- Each message has at least one byte, so there are no more messages than bytes.
unfoldable pub retained_of : Option (List (Rose NamedType)) → List ℕ → Retained
retained_of declared bytes = retained (length bytes) (before declared) [] bytes
