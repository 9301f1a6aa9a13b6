-- How far a table is written whose later rows are not known yet: what was put is the prefix that its stream has
-- whatever rows come.
use Rattle.std.specs.Prelude.{◌≡◌, ℕ, ◌+◌, ◌-◌, ◌*◌, ◌^◌, ◌≤◌, All, List, [], ◌++◌, drop, length, Result, Err, MatchResult}
use Rattle.values.specs.Limits.{max_main_rows}
use Rattle.values.specs.Datum.{Datum}
use Rattle.values.specs.Layouts.{AreLayouts}
use Rattle.values.specs.Rose.{Rose, kids_of}
use Rattle.values.specs.declared.layout.Layout.{Layout}
use Rattle.values.specs.Logical.{NamedType}
use Rattle.schema_meta.specs.SchemaTree.{AreColumns}
use Rattle.stream_writer.specs.Sinks.{Sunk, Writes}
use Rattle.stream_writer.specs.Stream.{batches, coded_canon, end_mark, schema_message, trees}
use Rattle.stream_writer.specs.Table.{IsRow}
use Rattle.stream_writer.specs.WrittenSoFar.{WrittenSoFar}
use Rattle.stream_writer.specs.declared.faults.WriteFault.{WriteFault}
use Rattle.stream_writer.specs.declared.progress.Progress.{Progress}

-- The first `written` bytes of the canonical stream of each table that begins with these rows were put; its batches of
-- the held rows and of those after them, and the end mark, remain.
abbrev pub HasPut :
    Sunk → Sunk → ℕ → List (Rose NamedType) → List ℕ → List (List Datum) → List (List Datum) → Type 0
HasPut start now written fs coded rows held =
    (more : List (List Datum)) → All (IsRow fs) more
    → WrittenSoFar start now written (coded_canon fs coded (rows ++ more))
    (batches coded (trees fs) (length (held ++ more)) (held ++ more) ++ end_mark)

-- A fault: what was put is a prefix of the canonical stream of each table that begins with these rows.
abbrev pub StopsIn : Sunk → Sunk → WriteFault → List (Rose NamedType) → List ℕ → List (List Datum) → Type 0
StopsIn start now fault fs coded rows =
    (more : List (List Datum)) → All (IsRow fs) more
    → Writes start now (Err fault) (coded_canon fs coded (rows ++ more))

-- Of a table with these columns, `rows` are the rows so far, of which the held rows are the last, and may be written
-- after `written` bytes.
pub record IsHeld (fs : List (Rose NamedType)) (ls : List (Rose Layout)) (rows held : List (List Datum))
    (written : ℕ) : Type 0 where
  pub layouts : kids_of ls ≡ trees fs
  pub columns : AreColumns fs
  pub known : AreLayouts (trees fs)
  pub sound : All (IsRow fs) held
  pub few : length rows ≤ max_main_rows
  pub short : written + 3 * 2 ^ 38 * length held ≤ 3 * 2 ^ 38 * (length rows + 1)

-- the last n rows
abbrev pub last_rows : ℕ → List (List Datum) → List (List Datum)
last_rows n rows = drop (length rows - n) rows

-- These bytes are the Schema message of a table with these columns, some of which are coded.
pub record IsSchemaMessage (bytes : List ℕ) (coded : List ℕ) (fs : List (Rose NamedType)) : Type 0 where
  pub bytes_are : bytes ≡ schema_message coded fs
  pub short : length bytes ≤ 2 ^ 39

-- the Schema message of a table without rows so far is put, or the writer stops in it
abbrev pub PutsSchema : Sunk → Sunk → List (Rose NamedType) → List ℕ → Result ℕ WriteFault → Type 0
PutsSchema old new fs coded result =
    MatchResult result (λ n. HasPut old new n fs coded [] []) (λ fault. StopsIn old new fault fs coded [])

-- this many of the held rows, the last ones, are still held after the bytes that were put by then
abbrev pub StayHeld : List (Rose Layout) → List (List Datum) → ℕ → Progress → Type 0
StayHeld ls held written p =
    (fs : List (Rose NamedType)) (rows : List (List Datum)) → IsHeld fs ls rows held written
    → IsHeld fs ls rows (last_rows p.left held) p.written

-- batches of the first of the held rows are put, or the writer stops in one of them
abbrev pub PutsFirst : Sunk → Sunk → List (Rose Layout) → List ℕ → List (List Datum) → ℕ
    → Result Progress WriteFault → Type 0
PutsFirst old new ls coded held written result =
    (start : Sunk) (fs : List (Rose NamedType)) (rows : List (List Datum)) → IsHeld fs ls rows held written
    → HasPut start old written fs coded rows held
    → MatchResult result (λ p. HasPut start new p.written fs coded rows (last_rows p.left held))
    (λ fault. StopsIn start new fault fs coded rows)

-- the batches of all held rows and the end mark are put, or the writer stops among them
abbrev pub PutsRest : Sunk → Sunk → List (Rose Layout) → List ℕ → List (List Datum) → ℕ → Result ℕ WriteFault → Type 0
PutsRest old new ls coded held written result =
    (start : Sunk) (fs : List (Rose NamedType)) (rows : List (List Datum)) (whole : List ℕ)
    → IsHeld fs ls rows held written
    → WrittenSoFar start old written whole (batches coded (trees fs) (length held) held ++ end_mark)
    → Writes start new result whole
