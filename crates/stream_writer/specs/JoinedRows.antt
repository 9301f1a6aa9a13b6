-- Rows of a main table with rows of a side table beside them.
use Rattle.std.specs.Prelude.{◌≡◌, ℕ, ◌+◌, ◌-◌, ◌<◌, nat_lt, if◌then◌else◌, All, List, [], ◌∷◌, drop, length, take}
use Rattle.values.specs.Datum.{Datum}
use Rattle.body_writer.specs.Picked.{beside}
use Rattle.body_writer.specs.Locations.{AreFound, AreLocated, IsRowAt, rows_at}
use Rattle.body_writer.specs.declared.from_locations.location.LocatedRows.{LocatedRows}
use Rattle.body_writer.specs.declared.from_locations.location.RowLocation.{RowLocation}
use Rattle.body_writer.specs.declared.from_locations.plain.BatchArrays.{BatchArrays}
use Rattle.stream_writer.specs.declared.joined_rows.JoinedRows.{JoinedRows}

abbrev pub joined_rows : JoinedRows → List (List Datum)
joined_rows r = beside (rows_at r.main) (rows_at r.side)

-- The main rows exist, with `width` cells, and there are as many locations of side rows. These are some columns of
-- both.
pub record HaveJoined (columns : List ℕ) (r : JoinedRows) : Type 0 where
  pub many : length r.side.locations.now ≡ length r.main.locations.now
  pub main : All (IsRowAt r.width r.main.batches.now) r.main.locations.now
  pub more : ℕ
  pub side : AreLocated more r.side
  pub below : All (λ j. j < r.width + more) columns

-- The rows exist, with this many cells. These are some of their columns.
pub record HaveAlone (columns : List ℕ) (width : ℕ) (r : LocatedRows) : Type 0 where
  pub main : All (IsRowAt width r.batches.now) r.locations.now
  pub below : All (λ j. j < width) columns

-- the rows of the table that has column j, and its position there

abbrev pub half : JoinedRows → ℕ → LocatedRows
half r j = if nat_lt j r.width then r.main else r.side

abbrev pub place_of : JoinedRows → ℕ → ℕ
place_of r j = if nat_lt j r.width then j else j - r.width

-- The rows lie in the same batches, and are some of them.
pub record IsPart (part : List RowLocation → List RowLocation) (old new : JoinedRows) : Type 0 where
  pub width : new.width ≡ old.width
  pub main_batches : new.main.batches ≡ old.main.batches
  pub side_batches : new.side.batches ≡ old.side.batches
  pub main : new.main.locations.now ≡ part old.main.locations.now
  pub side : new.side.locations.now ≡ part old.side.locations.now

abbrev pub IsFirst : ℕ → JoinedRows → JoinedRows → Type 0
IsFirst n old new = IsPart (take n) old new

abbrev pub IsRest : ℕ → JoinedRows → JoinedRows → Type 0
IsRest n old new = IsPart (drop n) old new

-- The arrays are those of column j.
pub record AreArraysOf (r : JoinedRows) (j : ℕ) (s : BatchArrays) : Type 0 where
  pub found : AreFound (half r j).batches.now s
  pub column : s.column ≡ place_of r j

-- and these of these columns, one by one
abbrev pub AreArrays : JoinedRows → List ℕ → List BatchArrays → Type 0
AreArrays r [] [] = Unit {0}
AreArrays r (j ∷ js) (s ∷ ss) = AreArraysOf r j s × AreArrays r js ss
AreArrays r js ss = ⊥
