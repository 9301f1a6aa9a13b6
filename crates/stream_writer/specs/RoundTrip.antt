-- The canonical stream of a table is read as the table.
use Rattle.std.specs.Prelude.{◌≡◌, ℕ, List, [], length, Some, Ok}
use Rattle.values.specs.Datum.{Datum}
use Rattle.values.specs.Rose.{Rose}
use Rattle.values.specs.Logical.{NamedType}
use Rattle.values.specs.Coded.{AreCoded}
use Rattle.schema_meta.specs.SchemaLaw.{AreNamed, before, coded_fields, stored_fields}
use Rattle.schema_meta.specs.Story.{Story, story, story_of}
use Rattle.schema_meta.specs.Means.{Means}
use Rattle.stream_writer.specs.Stream.{canon, coded_canon}
use Rattle.stream_writer.specs.Table.{IsTable}

-- the columns, the rows in order, and an end without fault
abbrev pub whole_story : List (Rose NamedType) → List (List Datum) → Story
whole_story fs rows = record { schema = Some (stored_fields fs); rows = rows; end = Ok tt }

-- the same of columns of which some are coded
abbrev pub coded_story : List (Rose NamedType) → List ℕ → List (List Datum) → Story
coded_story fs coded rows = record { schema = Some (coded_fields coded fs); rows = rows; end = Ok tt }

abbrev pub RoundTrip : Type 0
RoundTrip =
    (fs : List (Rose NamedType)) (rows : List (List Datum)) → IsTable fs rows → AreNamed fs
    → story_of (canon fs rows) ≡ whole_story fs rows

-- the same where these columns were declared for the stream
abbrev pub DeclaredTrip : Type 0
DeclaredTrip =
    (fs : List (Rose NamedType)) (rows : List (List Datum)) → IsTable fs rows → AreNamed fs
    → story (length (canon fs rows)) (before (Some fs)) [] (canon fs rows) ≡ whole_story fs rows

-- Reading the canonical stream of a table gives the table: no fault, its columns and its rows.
abbrev pub MeansItsTable : Type 0
MeansItsTable =
    (fs : List (Rose NamedType)) (rows : List (List Datum)) → IsTable fs rows → AreNamed fs
    → Means (story_of (canon fs rows)) fs rows

-- the same where these columns were declared for the stream
abbrev pub DeclaredMeansItsTable : Type 0
DeclaredMeansItsTable =
    (fs : List (Rose NamedType)) (rows : List (List Datum)) → IsTable fs rows → AreNamed fs
    → Means (story (length (canon fs rows)) (before (Some fs)) [] (canon fs rows)) fs rows

-- The same of streams with coded columns, also where the columns were declared for the stream.

abbrev pub CodedTrip : Type 0
CodedTrip =
    (fs : List (Rose NamedType)) (coded : List ℕ) (rows : List (List Datum)) → IsTable fs rows → AreNamed fs
    → AreCoded coded fs → story_of (coded_canon fs coded rows) ≡ coded_story fs coded rows

abbrev pub DeclaredCodedTrip : Type 0
DeclaredCodedTrip =
    (fs : List (Rose NamedType)) (coded : List ℕ) (rows : List (List Datum)) → IsTable fs rows → AreNamed fs
    → AreCoded coded fs
    → story (length (coded_canon fs coded rows)) (before (Some fs)) [] (coded_canon fs coded rows)
    ≡ coded_story fs coded rows

abbrev pub CodedMeansItsTable : Type 0
CodedMeansItsTable =
    (fs : List (Rose NamedType)) (coded : List ℕ) (rows : List (List Datum)) → IsTable fs rows → AreNamed fs
    → AreCoded coded fs → Means (story_of (coded_canon fs coded rows)) fs rows

abbrev pub DeclaredCodedMeansItsTable : Type 0
DeclaredCodedMeansItsTable =
    (fs : List (Rose NamedType)) (coded : List ℕ) (rows : List (List Datum)) → IsTable fs rows → AreNamed fs
    → AreCoded coded fs
    → Means (story (length (coded_canon fs coded rows)) (before (Some fs)) [] (coded_canon fs coded rows)) fs rows
