-- Rows that lie in batches of checked columns, and what is known of their weights.
use Rattle.std.specs.Prelude.{◌≡◌, ◌⊎◌, ℕ, ◌+◌, ◌^◌, ◌<◌, ◌≤◌, All, List, [], ◌∷◌, ◌++◌, length, drop, ⊤}
use Rattle.values.specs.Datum.{Datum}
use Rattle.values.specs.Rose.{Rose, Roses, kids_of}
use Rattle.values.specs.declared.layout.Layout.{Layout}
use Rattle.body_writer.specs.Batch.{row_weight}
use Rattle.body_writer.specs.RowRanges.{IsSized, batch_rows, rows_of}
use Rattle.body_writer.specs.declared.from_columns.batch.Batch.{Batch}
use Rattle.stream_writer.specs.Weights.{WeighsAs, weights_of}
use Rattle.stream_writer.specs.declared.batch_rows.BatchRows.{BatchRows}

-- the greatest weight of a row of which 1,024 are within the limit of a batch, 2^27
abbrev pub max_light_row : ℕ
max_light_row = 2 ^ 17

abbrev pub AreLightRows : Roses Layout → List (List Datum) → Type 0
AreLightRows ls rows = All (λ (row : List Datum). row_weight ls row ≤ max_light_row) rows

-- No weight is given, and all rows are so light that each batch that is written has its 1,024 rows; or the weight of
-- each row is given.
abbrev pub AreWeighed : Roses Layout → List ℕ → List (List Datum) → Type 0
AreWeighed ls weights rows = ((weights ≡ []) × AreLightRows ls rows) ⊎ (weights ≡ weights_of ls rows)

-- Where the first are the weights of the rows from row `from` on, the others are those of the same rows and the
-- batch's, none of which is above `heaviest`.
abbrev pub AreWeighedToo : List Batch → ℕ → Batch → ℕ → List ℕ → List ℕ → Type 0
AreWeighedToo before from batch heaviest weights more =
    (ls : Roses Layout) → All (WeighsAs ls) before → WeighsAs ls batch
    → All (λ (row : List Datum). row_weight ls row ≤ heaviest) (batch_rows batch)
    → AreWeighed ls weights (drop from (rows_of before))
    → AreWeighed ls more (drop from (rows_of before) ++ batch_rows batch)

-- the batch has a row
abbrev pub HasRows : Batch → Type 0
HasRows b = 0 < b.rows

-- the first of these batches has more rows than that, if there is one
abbrev pub IsInFirst : ℕ → List Batch → Type 0
IsInFirst from [] = ⊤
IsInFirst from (b ∷ bs) = from < b.rows

abbrev pub rows_left : BatchRows → List (List Datum)
rows_left r = drop r.from (rows_of r.batches.now)

pub record FitsBatches (ls : List (Rose Layout)) (r : BatchRows) : Type 0 where
  pub sized : All (IsSized (length ls)) r.batches.now
  pub weighed : AreWeighed (kids_of ls) r.weights.now (rows_left r)
  pub left : r.left ≡ length (rows_left r)
  pub small : r.from + r.left < 2 ^ 32
