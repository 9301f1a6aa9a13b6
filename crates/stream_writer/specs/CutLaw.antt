-- The cut into batches: the rows of the batches are the rows of the table, in order; each batch has a row and is within
-- the limits; and no batch has room for the next row.
use Rattle.std.specs.Prelude.{◌≡◌, ℕ, zero, suc, ◌<◌, ◌⊎◌, List, [], ◌∷◌, ◌++◌, length, take, drop, ⊤}
use Rattle.std.specs.List.{flat_map}
use Rattle.values.specs.Limits.{max_batch_rows, max_batch_weight}
use Rattle.values.specs.Datum.{Datum}
use Rattle.values.specs.Rose.{Rose, Roses}
use Rattle.values.specs.declared.layout.Layout.{Layout}
use Rattle.values.specs.Logical.{NamedType}
use Rattle.body_writer.specs.Batch.{IsBatch, rows_weight}
use Rattle.stream_writer.specs.Stream.{batch_len, batch_messages, batches, trees}
use Rattle.stream_writer.specs.Table.{IsTable}

-- the rows of each batch
unfoldable pub cut : Roses Layout → ℕ → List (List Datum) → List (List (List Datum))
cut ls zero rows = []
cut ls (suc most) [] = []
cut ls (suc most) (row ∷ rows) =
    take (batch_len ls (row ∷ rows)) (row ∷ rows) ∷ cut ls most (drop (batch_len ls (row ∷ rows)) (row ∷ rows))

-- with one row more it would be too long or too heavy
abbrev pub IsFull : Roses Layout → List (List Datum) → List (List (List Datum)) → Type 0
IsFull ls batch [] = ⊤
IsFull ls batch (next ∷ later) =
    (length batch ≡ max_batch_rows) ⊎ (max_batch_weight < rows_weight ls (batch ++ take 1 next))

abbrev pub AreBatches : Roses Layout → List (List (List Datum)) → Type 0
AreBatches ls [] = ⊤
AreBatches ls (batch ∷ later) = (0 < length batch) × IsBatch ls batch × IsFull ls batch later × AreBatches ls later

pub record IsCut (ls : Roses Layout) (rows : List (List Datum)) (pieces : List (List (List Datum))) : Type 0 where
  pub bytes : (coded : List ℕ) → batches coded ls (length rows) rows ≡ flat_map (batch_messages coded ls) pieces
  pub joined : flat_map (λ piece. piece) pieces ≡ rows
  pub sound : AreBatches ls pieces

abbrev pub CutLaw : Type 0
CutLaw = (fields : List (Rose NamedType)) (rows : List (List Datum)) → IsTable fields rows
    → IsCut (trees fields) rows (cut (trees fields) (length rows) rows)
