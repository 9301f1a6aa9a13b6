-- Rows that nothing can bring back any more: when the oldest record is dropped.
use Rattle.std.specs.Prelude.{◌≡◌, ◌<◌, List, [], ◌∷◌, ◌++◌, length, map}
use Rattle.view_lang.specs.Config.{Table, View}
use Rattle.view_lang.specs.Edits.{Edit}
use Rattle.row_keys.specs.Numbered.{numbered}
use Rattle.row_keys.specs.Slots.{AllOut}
use Rattle.upkeep.specs.Stores.{Rows, rows_at, world_of}
use Rattle.upkeep.specs.Stores.{released_at}
use Rattle.row_keys.specs.TableChanges.{restores}
use Rattle.upkeep.specs.Touched.{touched}
use Rattle.session.specs.Shows.{HoldsBack}
use Rattle.session.specs.declared.undo.UndoRecord.{UndoRecord}

-- Where the oldest record is dropped, the rows that it alone could bring back can be released: the other records lead
-- back as before, to the same contents of all tables.
abbrev pub EvictedGo : Type 0
EvictedGo =
    (tables : List Table) (rows : Rows) (records : List UndoRecord) (oldest : UndoRecord) (edits : List Edit)
    → HoldsBack tables rows (records ++ oldest ∷ []) edits
    → HoldsBack tables (released_at oldest.table (restores oldest.change) rows) records edits

-- The live rows, and their numbers, are what they were.
abbrev pub NothingIsSeen : Type 0
NothingIsSeen =
    (tables : List Table) (rows : Rows) (records : List UndoRecord) (oldest : UndoRecord) (edits : List Edit)
    → HoldsBack tables rows (records ++ oldest ∷ []) edits
    → (world_of (released_at oldest.table (restores oldest.change) rows) ≡ world_of rows)
    × (map numbered (released_at oldest.table (restores oldest.change) rows) ≡ map numbered rows)

-- None of those rows is live.
abbrev pub OldestIsOut : Type 0
OldestIsOut =
    (tables : List Table) (rows : Rows) (records : List UndoRecord) (oldest : UndoRecord) (edits : List Edit)
    → HoldsBack tables rows (records ++ oldest ∷ []) edits
    → (oldest.table < length rows) × AllOut (restores oldest.change) (rows_at rows oldest.table)

-- a record's change touches as many of some rows as of others
abbrev pub TouchesAlike : List Table → List View → UndoRecord → Rows → Rows → Type 0
TouchesAlike tables views r rows others =
    touched tables views rows r.table r.change ≡ touched tables views others r.table r.change

-- The newest record's change touches as many rows as before.
abbrev pub NewestTouches : Type 0
NewestTouches =
    (tables : List Table) (views : List View) (rows : Rows) (newest : UndoRecord) (records : List UndoRecord)
    (oldest : UndoRecord) (edits : List Edit)
    → HoldsBack tables rows (newest ∷ records ++ oldest ∷ []) edits
    → TouchesAlike tables views newest (released_at oldest.table (restores oldest.change) rows) rows
