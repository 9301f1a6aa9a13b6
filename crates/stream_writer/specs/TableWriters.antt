-- A writer of a table whose rows come batch by batch.
use Rattle.std.specs.Prelude.{◌≡◌, ℕ, ◌+◌, ◌^◌, ◌<◌, ◌≤◌, All, List, [], ◌++◌, length, drop}
use Rattle.values.specs.Limits.{max_batch_rows, max_main_rows}
use Rattle.values.specs.Datum.{Datum}
use Rattle.values.specs.Rose.{Rose, kids_of}
use Rattle.values.specs.Logical.{NamedType}
use Rattle.values.specs.declared.layout.Layout.{Layout}
use Rattle.body_writer.specs.Batch.{row_weight}
use Rattle.body_writer.specs.declared.from_columns.batch.Batch.{Batch}
use Rattle.body_writer.specs.RowRanges.{IsSized, batch_rows, rows_of}
use Rattle.stream_writer.specs.BatchRows.{AreWeighed, HasRows, IsInFirst}
use Rattle.stream_writer.specs.Progress.{HasPut, IsHeld, StopsIn}
use Rattle.stream_writer.specs.Sinks.{Sunk}
use Rattle.stream_writer.specs.Stream.{trees}
use Rattle.stream_writer.specs.Table.{IsRow}
use Rattle.stream_writer.specs.Weights.{IsLightBatch, WeighsAs}
use Rattle.stream_writer.specs.declared.faults.WriteFault.{WriteFault}
use Rattle.stream_writer.specs.declared.table_writer.TableWriter.{TableWriter}

-- the rows so far that are in no batch that was put
abbrev pub rows_held : TableWriter → List (List Datum)
rows_held w = drop w.from (rows_of w.held.items)

-- A batch with a column for each of these layouts, which weighs as they say, and in which no row is too heavy.
pub record IsWeighable (ls : List (Rose Layout)) (b : Batch) : Type 0 where
  pub sized : IsSized (length ls) b
  pub light : IsLightBatch b
  pub alike : WeighsAs (kids_of ls) b

-- A batch may come after these rows: its rows are of the table's columns, none is too heavy, or heavier than this, and
-- they are not too many.
pub record MayCome (fs : List (Rose NamedType)) (rows : List (List Datum)) (b : Batch) (heaviest : ℕ) : Type 0 where
  pub sized : IsSized (length fs) b
  pub sound : All (IsRow fs) (batch_rows b)
  pub light : IsLightBatch b
  pub alike : WeighsAs (trees fs) b
  pub bound : All (λ (row : List Datum). row_weight (trees fs) row ≤ heaviest) (batch_rows b)
  pub few : length rows + b.rows ≤ max_main_rows

-- These are the rows so far of a table with these columns, and all of its stream was put but what the held rows and
-- later ones become.
pub record Holds (start now : Sunk) (fs : List (Rose NamedType)) (rows : List (List Datum)) (w : TableWriter) :
    Type 0 where
  pub put : HasPut start now w.written fs [] rows (rows_held w)
  pub held : IsHeld fs w.layouts.items rows (rows_held w) w.written
  pub each : All (IsWeighable w.layouts.items) w.held.items
  pub weighed : AreWeighed (kids_of w.layouts.items) w.weights.items (rows_held w)
  pub counted : w.left ≡ length (rows_held w)
  pub within : w.from + w.left ≤ length rows
  pub place : w.from ≤ length (rows_of w.held.items)
  pub filled : All HasRows w.held.items
  pub first : IsInFirst w.from w.held.items

-- The same, and fewer rows are held than a batch may have, in no more batches than there are rows.
pub record IsWriting (start now : Sunk) (fs : List (Rose NamedType)) (rows : List (List Datum)) (w : TableWriter) :
    Type 0 where
  pub holds : Holds start now fs rows w
  pub few : w.left < max_batch_rows
  pub batches : length w.held.items ≤ w.left

-- Of each table that accepts the batch, the writer has its rows too.
abbrev pub HoldsToo : Batch → ℕ → TableWriter → TableWriter → Type 0
HoldsToo batch heaviest before after =
    (start now : Sunk) (fs : List (Rose NamedType)) (rows : List (List Datum)) → Holds start now fs rows before
    → MayCome fs rows batch heaviest → Holds start now fs (rows ++ batch_rows batch) after

abbrev pub WritesToo : Sunk → Sunk → Batch → ℕ → TableWriter → TableWriter → Type 0
WritesToo old new batch heaviest before after =
    (start : Sunk) (fs : List (Rose NamedType)) (rows : List (List Datum)) → IsWriting start old fs rows before
    → MayCome fs rows batch heaviest → IsWriting start new fs (rows ++ batch_rows batch) after

-- A fault: the writer stops in each such table.
abbrev pub StopsWriting : Sunk → Sunk → Batch → ℕ → TableWriter → WriteFault → Type 0
StopsWriting old new batch heaviest before fault =
    (start : Sunk) (fs : List (Rose NamedType)) (rows : List (List Datum)) → IsWriting start old fs rows before
    → MayCome fs rows batch heaviest → StopsIn start new fault fs [] (rows ++ batch_rows batch)

-- Of a table without columns the writer has this many rows more.
abbrev pub HasMoreRows : Sunk → Sunk → ℕ → TableWriter → TableWriter → Type 0
HasMoreRows old new count before after =
    (start : Sunk) (rows : List (List Datum)) → IsWriting start old [] rows before → length rows + count ≤ 2 ^ 24
    → (all : List (List Datum)) × IsWriting start new [] all after × (length all ≡ length rows + count)
