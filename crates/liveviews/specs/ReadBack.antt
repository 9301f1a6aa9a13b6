-- What a stream means is read back from the canonical stream of it.
use Rattle.std.specs.Prelude.{ℕ, List, [], Some, length}
use Rattle.values.specs.Datum.{Datum}
use Rattle.values.specs.Rose.{Rose}
use Rattle.values.specs.Logical.{NamedType}
use Rattle.schema_meta.specs.SchemaLaw.{before}
use Rattle.schema_meta.specs.Story.{story, story_of}
use Rattle.schema_meta.specs.Means.{Means}
use Rattle.stream_writer.specs.Stream.{canon}
use Rattle.liveviews.specs.Steps.{IsConsumed}

-- Where a whole input means a table, and its rows are within the limits, the canonical stream of the table means the
-- table.
abbrev pub ReadBack : Type 0
ReadBack =
    (input : List ℕ) (fields : List (Rose NamedType)) (rows : List (List Datum)) → Means (story_of input) fields rows
    → IsConsumed (story_of input) → Means (story_of (canon fields rows)) fields rows

-- the same where these columns were declared for the stream
abbrev pub DeclaredReadBack : Type 0
DeclaredReadBack =
    (input : List ℕ) (fields : List (Rose NamedType)) (rows : List (List Datum)) → Means (story_of input) fields rows
    → IsConsumed (story_of input)
    → Means (story (length (canon fields rows)) (before (Some fields)) [] (canon fields rows)) fields rows
