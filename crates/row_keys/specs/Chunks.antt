-- Rows in chunks: columns in which rows lie one after the other, the number of each, and which of them are released.
use Rattle.std.specs.Prelude.{◌≡◌, ◌⊎◌, ℕ, suc, ◌+◌, ◌-◌, ◌<◌, ◌≤◌, Bool, true, false, if◌then◌else◌, min, nat_eq, nat_lt, All, List, [], ◌∷◌, ◌++◌, Some, get_or, length, slice_get, slice_set, take, refl}
use Rattle.std.specs.Coded.{Coded, code_by, coded×, coded_ℕ, coded_bool, coded_list}
use Rattle.std.specs.List.Sorted.{IsPartitionPoint}
use Rattle.values.specs.Datum.{Datum}
use Rattle.arrays.specs.Checked.{CheckedColumn, column_code}
use Rattle.schema_meta.specs.Rows.{row_at}
use Rattle.row_keys.specs.Batches.{cells_in}
use Rattle.row_keys.specs.Listed.{listed}

-- The rows of `span` numbers, of which the first is `first`, as far as they are retained: the number of each, its index
-- in columns of `rows` cells, and whether it is released.
pub record Chunk : Type 0 where
  pub first : ℕ
  pub span : ℕ
  pub numbers : List ℕ
  pub rows : ℕ
  pub columns : List CheckedColumn
  pub gone : List Bool

abbrev pub chunk : ℕ → ℕ → List ℕ → ℕ → List CheckedColumn → List Bool → Chunk
chunk first span numbers rows columns gone = record {
  first = first;
  span = span;
  numbers = numbers;
  rows = rows;
  columns = columns;
  gone = gone;
}

abbrev pub chunk_code : Coded Chunk
chunk_code =
    code_by (ℕ × (ℕ × (List ℕ × (ℕ × (List CheckedColumn × List Bool)))))
    (coded× coded_ℕ
    (coded× coded_ℕ
    (coded× (coded_list coded_ℕ) (coded× coded_ℕ (coded× (coded_list column_code) (coded_list coded_bool))))))
    (λ c. (c.first, (c.span, (c.numbers, (c.rows, (c.columns, c.gone))))))
    (λ p. chunk p.0 p.1.0 p.1.1.0 p.1.1.1.0 p.1.1.1.1.0 p.1.1.1.1.1) (λ _. refl)

-- n consecutive numbers
abbrev pub in_turn : ℕ → ℕ → List ℕ
in_turn first n = listed (λ i. i) first n

-- the numbers of n rows: where none are listed they are consecutive
abbrev pub numbers_by : List ℕ → ℕ → ℕ → List ℕ
numbers_by [] first n = in_turn first n
numbers_by (m ∷ ms) first n = m ∷ ms

-- the index of a number among these, which is past the end where it isn't one of them
abbrev pub place_in : List ℕ → ℕ → ℕ
place_in [] n = 0
place_in (m ∷ ms) n = if nat_eq m n then 0 else suc (place_in ms n)

-- Numbers rise, from `from` on and below `end`.
abbrev pub AreRising : ℕ → List ℕ → ℕ → Type 0
AreRising from [] end = from ≤ end
AreRising from (n ∷ ns) end = (from ≤ n) × AreRising (suc n) ns end

-- row i of a chunk: a released one has no cells
abbrev pub chunk_row : Chunk → ℕ → List Datum
chunk_row c i = if get_or c.gone i true then [] else row_at (cells_in c.columns) i

-- the row of number n
abbrev pub number_row : Chunk → ℕ → List Datum
number_row c n = chunk_row c (place_in c.numbers n)

-- the row of number n: without cells where no chunk has it
abbrev pub row_in : List Chunk → ℕ → List Datum
row_in [] n = []
row_in (c ∷ cs) n =
    if nat_lt n c.first then [] else (if nat_lt n (c.first + c.span) then number_row c n else row_in cs n)

-- the rows of all numbers below `len`
abbrev pub stored_rows : List Chunk → ℕ → List (List Datum)
stored_rows chunks len = listed (row_in chunks) 0 len

-- Each row has a number among those of the chunk, and a cell in each column. Where all rows are released there may be
-- no columns.
pub record IsLong (c : Chunk) : Type 0 where
  pub long : All (λ k. length k.cells ≡ c.rows) c.columns
  pub few : length c.gone ≤ c.rows
  pub each : length c.numbers ≡ length c.gone
  pub rise : AreRising c.first c.numbers (c.first + c.span)

-- Chunks come in the order of their numbers, which are from `from` on and below `len`.
abbrev pub AreChunks : ℕ → List Chunk → ℕ → Type 0
AreChunks from [] len = from ≤ len
AreChunks from (c ∷ cs) len = (from ≤ c.first) × IsLong c × AreChunks (c.first + c.span) cs len

-- the index of number n among these, if it is one of them
abbrev pub IsPlaceOf : List ℕ → ℕ → ℕ → Type 0
IsPlaceOf ns n i = (i < length ns) × (place_in ns n ≡ i)

abbrev pub IsNoneOf : List ℕ → ℕ → Type 0
IsNoneOf ns n = place_in ns n ≡ length ns

-- Number n is one of those of chunk p.
pub record LiesIn (chunks : List Chunk) (n p : ℕ) : Type 0 where
  pub chunk : Chunk
  pub there : slice_get chunks p ≡ Some chunk
  pub from : chunk.first ≤ n
  pub below : n < chunk.first + chunk.span
  pub long : IsLong chunk
  pub row : row_in chunks n ≡ number_row chunk n

-- The row of number n is row i of chunk p.
pub record LiesAt (chunks : List Chunk) (n p i : ℕ) : Type 0 where
  pub lies : LiesIn chunks n p
  pub place : place_in lies.chunk.numbers n ≡ i
  pub within : i < length lies.chunk.gone

-- Row i of a chunk is released, and where all rows are, its columns may be too.
pub record Releases (old : Chunk) (i : ℕ) (new : Chunk) : Type 0 where
  pub first : new.first ≡ old.first
  pub span : new.span ≡ old.span
  pub numbers : new.numbers ≡ old.numbers
  pub rows : new.rows ≡ old.rows
  pub gone : new.gone ≡ slice_set old.gone i true
  pub columns : (new.columns ≡ old.columns) ⊎ ((new.columns ≡ []) × All (λ g. g ≡ true) new.gone)

-- Row i of chunk p is.
pub record ReleasesAt (old : List Chunk) (p i : ℕ) (new : List Chunk) : Type 0 where
  pub chunk : Chunk
  pub left : Chunk
  pub there : slice_get old p ≡ Some chunk
  pub releases : Releases chunk i left
  pub new_is : new ≡ slice_set old p left

abbrev pub has_columns : Chunk → Bool
has_columns c = nat_lt 0 (length c.columns)

-- whether the last chunk begins with number n or above it
abbrev pub EndsAbove : List Chunk → ℕ → Bool → Type 0
EndsAbove cs n true = (front : List Chunk) × (c : Chunk) × (cs ≡ front ++ c ∷ []) × (n ≤ c.first)
EndsAbove cs n false = (cs ≡ []) ⊎ ((front : List Chunk) × (c : Chunk) × (cs ≡ front ++ c ∷ []) × (c.first < n))

-- this many of these numbers, the first of them, are below n
abbrev pub AreBelow : ℕ → List ℕ → ℕ → Type 0
AreBelow n ns k = IsPartitionPoint (λ m. nat_lt m n ≡ true) (λ m. nat_lt m n ≡ false) ns k

-- a chunk without its rows from number n on
pub record IsShortened (n : ℕ) (old new : Chunk) : Type 0 where
  pub many : ℕ
  pub below : AreBelow n old.numbers many
  pub new_is :
      new ≡ chunk old.first (min old.span (n - old.first)) (take many old.numbers) old.rows old.columns
      (take many old.gone)

-- Chunks without the rows from number n on.
pub record IsCut (old : List Chunk) (n : ℕ) (new : List Chunk) : Type 0 where
  pub chunks : AreChunks 0 new n
  pub rows : (i : ℕ) → i < n → row_in new i ≡ row_in old i
