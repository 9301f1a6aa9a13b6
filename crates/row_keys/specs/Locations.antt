-- Rows of chunks by their locations.
use Rattle.std.specs.Prelude.{◌≡◌, ℕ, ◌≤◌, List, [], ◌∷◌, None, Option, Some, length}
use denote.Ref.{Bor}
use Rattle.values.specs.Datum.{Datum}
use Rattle.body_writer.specs.declared.from_columns.batch.Batch.{Batch}
use Rattle.body_writer.specs.declared.from_locations.location.RowLocation.{RowLocation}
use Rattle.row_keys.specs.Chunks.{Chunk, LiesAt}

-- The rows of these numbers are at these locations, one by one.
abbrev pub AreAtLocations : List Chunk → List ℕ → List RowLocation → Type 0
AreAtLocations cs [] [] = Unit {0}
AreAtLocations cs (n ∷ ns) (p ∷ ps) = LiesAt cs n p.batch p.row × AreAtLocations cs ns ps
AreAtLocations cs ns ps = ⊥

-- The row of a number, or one without cells where there is no number.
abbrev pub row_if : (ℕ → List Datum) → Option ℕ → List Datum
row_if row None = []
row_if row (Some n) = row n

-- The row of this number is at this location; where there is no number, the location is in no chunk.
abbrev pub IsAtLocation : List Chunk → Option ℕ → RowLocation → Type 0
IsAtLocation cs None p = length cs ≤ p.batch
IsAtLocation cs (Some n) p = LiesAt cs n p.batch p.row

-- and so it is with these, one by one
abbrev pub MayBeAtLocations : List Chunk → List (Option ℕ) → List RowLocation → Type 0
MayBeAtLocations cs [] [] = Unit {0}
MayBeAtLocations cs (o ∷ os) (p ∷ ps) = IsAtLocation cs o p × MayBeAtLocations cs os ps
MayBeAtLocations cs os ps = ⊥

-- It is the batch of the chunk.
pub record IsBatchOf (c : Chunk) (b : Bor Batch) : Type 0 where
  pub rows : c.rows ≡ b.now.rows
  pub columns : c.columns ≡ b.now.columns.items

-- They are those of the chunks, in order.
abbrev pub AreBatches : List Chunk → List (Bor Batch) → Type 0
AreBatches [] [] = Unit {0}
AreBatches (c ∷ cs) (b ∷ bs) = IsBatchOf c b × AreBatches cs bs
AreBatches cs bs = ⊥
