-- The rows of a batch are read back from its body.
use Rattle.std.specs.Prelude.{◌≡◌, ℕ, ℤ, pos, true, List, map, Ok}
use Rattle.values.specs.Rose.{Rose}
use Rattle.values.specs.Coded.{AreCoded, is_coded}
use Rattle.values.specs.Datum.{Datum, text}
use Rattle.values.specs.Logical.{NamedType}
use Rattle.schema_meta.specs.SchemaLaw.{coded_fields, stored_fields}
use Rattle.schema_meta.specs.Rows.{rows_of}
use Rattle.body_writer.specs.Batch.{IsBatch, body_bytes}
use Rattle.stream_writer.specs.BatchLaw.{coded_head, head}
use Rattle.stream_writer.specs.Coding.{indexed_layouts, indexed_rows, values_at}
use Rattle.stream_writer.specs.Stream.{trees}

-- The body that is written, read by the header that is written, is the rows, whatever values dictionaries have.
abbrev pub RowsLaw : Type 0
RowsLaw =
    (values : ℤ → List Datum) (fs : List (Rose NamedType)) (rows : List (List Datum)) → IsBatch (trees fs) rows
    → rows_of values (stored_fields fs) (head fs rows) (body_bytes (trees fs) rows) ≡ Ok rows

-- the same of a batch with coded columns, where the dictionary of each has the values of this batch
abbrev pub CodedRowsLaw : Type 0
CodedRowsLaw =
    (values : ℤ → List Datum) (fs : List (Rose NamedType)) (coded : List ℕ) (rows : List (List Datum))
    → IsBatch (trees fs) rows → AreCoded coded fs
    → ((j : ℕ) → is_coded coded j ≡ true → values (pos j) ≡ map text (values_at j rows))
    → rows_of values (coded_fields coded fs) (coded_head fs coded rows)
    (body_bytes (indexed_layouts coded 0 (trees fs)) (indexed_rows coded rows)) ≡ Ok rows
