-- Rows of a chunk that lie one after the other.
use Rattle.std.specs.Prelude.{◌≡◌, ℕ, zero, suc, ◌+◌, ◌-◌, ◌≤◌, if◌then◌else◌, nat_eq, List, [], ◌∷◌, Some, drop, length, slice_get, take}
use Rattle.values.specs.Datum.{Datum}
use Rattle.row_keys.specs.Batches.{batch_rows}
use Rattle.row_keys.specs.Chunks.{Chunk, IsLong}

-- all rows that lie in the columns of the chunk at this index
abbrev pub rows_at : List Chunk → ℕ → List (List Datum)
rows_at [] p = []
rows_at (c ∷ cs) zero = batch_rows c.rows c.columns
rows_at (c ∷ cs) (suc p) = rows_at cs p

-- those from one of them up to, and without, another
abbrev pub run_rows : List Chunk → ℕ → ℕ → ℕ → List (List Datum)
run_rows cs p from to = take (to - from) (drop from (rows_at cs p))

-- That chunk has this many rows.
pub record HasRun (cs : List Chunk) (p to : ℕ) : Type 0 where
  pub chunk : Chunk
  pub there : slice_get cs p ≡ Some chunk
  pub long : IsLong chunk
  pub within : to ≤ length chunk.gone

-- It has w columns.
abbrev pub IsWideAt : List Chunk → ℕ → ℕ → Type 0
IsWideAt cs p w = (c : Chunk) → slice_get cs p ≡ Some c → length c.columns ≡ w

-- how many of these numbers aren't the one after the number before them, where n is before the first
abbrev pub turns_from : ℕ → List ℕ → ℕ
turns_from n [] = 0
turns_from n (m ∷ ms) = (if nat_eq m (n + 1) then 0 else 1) + turns_from m ms

-- how many runs of consecutive numbers there are
abbrev pub runs_in : List ℕ → ℕ
runs_in [] = 0
runs_in (n ∷ ns) = 1 + turns_from n ns
