-- The batches that are closed: whatever rows come later, they are the first batches of the whole table. So they can be
-- written before the rows after them come.
use Rattle.std.specs.Prelude.{
  ◌≡◌,
  ℕ,
  zero,
  suc,
  ◌<◌,
  ◌≤◌,
  ◌==◌,
  ◌&&◌,
  ◌⊎◌,
  nat_lt,
  Bool,
  if◌then◌else◌,
  All,
  List,
  [],
  ◌∷◌,
  ◌++◌,
  length,
  take,
  drop,
}
use Rattle.std.specs.List.{flat_map}
use Rattle.values.specs.Limits.{max_batch_rows, max_batch_weight}
use Rattle.values.specs.Datum.{Datum}
use Rattle.values.specs.Rose.{Rose, Roses}
use Rattle.values.specs.declared.layout.Layout.{Layout}
use Rattle.values.specs.Logical.{NamedType}
use Rattle.body_writer.specs.Batch.{rows_weight}
use Rattle.stream_writer.specs.Stream.{batch_len, batch_messages, batches, trees}
use Rattle.stream_writer.specs.Table.{IsRow}

-- The next batch has all the rows that a batch can have, or the row after it would make it too heavy.
abbrev pub IsClosed : Roses Layout → List (List Datum) → Type 0
IsClosed ls rows = (batch_len ls rows ≡ max_batch_rows) ⊎ (batch_len ls rows < length rows)

-- The next batch has all rows so far, and there is room for one more.
abbrev pub is_open : Roses Layout → List (List Datum) → Bool
is_open ls rows = (batch_len ls rows == length rows) && nat_lt (length rows) max_batch_rows

-- the rows of each closed batch, at most n of them
unfoldable pub closed : Roses Layout → ℕ → List (List Datum) → List (List (List Datum))
closed ls zero rows = []
closed ls (suc most) rows =
    if is_open ls rows
    then []
    else take (batch_len ls rows) rows ∷ closed ls most (drop (batch_len ls rows) rows)

-- the rows after them
unfoldable pub open_rows : Roses Layout → ℕ → List (List Datum) → List (List Datum)
open_rows ls zero rows = rows
open_rows ls (suc most) rows =
    if is_open ls rows then rows else open_rows ls most (drop (batch_len ls rows) rows)

-- The batches of the rows with those that come later begin with the closed batches of the rows, followed by those of
-- the remaining rows with the later ones.
pub record IsSettled (ls : Roses Layout) (rows more : List (List Datum)) (pieces : List (List (List Datum)))
    (left : List (List Datum)) : Type 0 where
  pub bytes : (coded : List ℕ)
      → batches coded ls (length (rows ++ more)) (rows ++ more)
      ≡ flat_map (batch_messages coded ls) pieces ++ batches coded ls (length (left ++ more)) (left ++ more)
  pub joined : flat_map (λ piece. piece) pieces ++ left ≡ rows
  pub few : length left < max_batch_rows
  pub light : rows_weight ls left ≤ max_batch_weight

abbrev pub ClosedLaw : Type 0
ClosedLaw =
    (fields : List (Rose NamedType)) (rows more : List (List Datum)) → All (IsRow fields) rows
    → All (IsRow fields) more
    → IsSettled (trees fields) rows more (closed (trees fields) (length rows) rows)
    (open_rows (trees fields) (length rows) rows)
