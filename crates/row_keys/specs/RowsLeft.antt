-- The remaining rows of chunks, with their numbers, and a chunk that is built from them.
use Rattle.std.specs.Prelude.{◌≡◌, ◌⊎◌, ℕ, ◌+◌, ◌-◌, ◌^◌, ◌<◌, ◌≤◌, Bool, false, if◌then◌else◌, All, List, [], ◌∷◌, ◌++◌, None, Option, Some, drop, get_or, length, replicate, slice_get, take}
use Rattle.std.specs.List.{flat_map}
use Rattle.values.specs.Datum.{Datum, bytes, items_of, list, null, structure, text, truth, whole}
use Rattle.values.specs.Layouts.{HoldsEach}
use Rattle.values.specs.Rose.{Roses}
use Rattle.values.specs.declared.layout.Layout.{Layout}
use Rattle.row_keys.specs.Batches.{batch_rows}
use Rattle.row_keys.specs.Chunks.{AreChunks, Chunk, IsLong, IsShortened, number_row, row_in}

-- the items whose flags aren't set
abbrev pub unflagged : {X : Type 0} → List Bool → List X → List X
unflagged [] xs = []
unflagged (g ∷ gs) [] = []
unflagged (g ∷ gs) (x ∷ xs) = if g then unflagged gs xs else x ∷ unflagged gs xs

abbrev pub numbers_left : Chunk → List ℕ
numbers_left c = unflagged c.gone c.numbers

abbrev pub rows_left : Chunk → List (List Datum)
rows_left c = unflagged c.gone (batch_rows c.rows c.columns)

-- those of several chunks

abbrev pub all_numbers : List Chunk → List ℕ
all_numbers cs = flat_map numbers_left cs

abbrev pub all_rows : List Chunk → List (List Datum)
all_rows cs = flat_map rows_left cs

-- a released row, or one that columns of these layouts hold
abbrev pub IsHeld : Roses Layout → List Datum → Type 0
IsHeld ls row = (row ≡ []) ⊎ HoldsEach ls (items_of row)

-- a number above the last of some chunks, where `from` is above those before them
abbrev pub end_of : ℕ → List Chunk → ℕ
end_of from [] = from
end_of from (c ∷ cs) = end_of (c.first + c.span) cs

-- a chunk of these rows with these numbers, of which none is released
pub record IsMade (numbers : List ℕ) (rows : List (List Datum)) (c : Chunk) : Type 0 where
  pub numbers_are : c.numbers ≡ numbers
  pub gone : c.gone ≡ replicate (length numbers) false
  pub many : c.rows ≡ length numbers
  pub long : All (λ k. length k.cells ≡ length numbers) c.columns
  pub rows_are : batch_rows (length numbers) c.columns ≡ rows

-- a chunk with the rows of these, whose numbers are `from` or above
pub record IsMerged (from : ℕ) (old : List Chunk) (new : Chunk) : Type 0 where
  pub first : from ≤ new.first
  pub long : IsLong new
  pub end : new.first + new.span ≡ end_of from old
  pub rows : (n : ℕ) → row_in (new ∷ []) n ≡ row_in old n

-- consecutive chunks, whose numbers fit into a machine word
abbrev pub IsPart : List Chunk → Type 0
IsPart cs = (from : ℕ) × (len : ℕ) × AreChunks from cs len × (len < 2 ^ 64)

abbrev pub IsWide : ℕ → Chunk → Type 0
IsWide w c = length c.columns ≡ w

-- how many bytes a cell has beyond its slot; none for a list or a struct
abbrev pub bytes_beyond : Datum → Option ℕ
bytes_beyond null = Some 0
bytes_beyond (truth b) = Some 0
bytes_beyond (whole z) = Some 0
bytes_beyond (text b) = Some (length b)
bytes_beyond (bytes b) = Some (length b)
bytes_beyond (list es) = None
bytes_beyond (structure es) = None

-- w is at least n, unless it is the greatest number
abbrev pub Bounds : ℕ → ℕ → Type 0
Bounds w n = w < 2 ^ 64 - 1 → n ≤ w

-- a chunk of these rows, whose numbers are among `span` from `first` on
pub record IsMadeIn (first span : ℕ) (numbers : List ℕ) (rows : List (List Datum)) (c : Chunk) : Type 0 where
  pub first_is : c.first ≡ first
  pub span_is : c.span ≡ span
  pub made : IsMade numbers rows c

-- the remaining rows of a chunk from row i on, and their numbers

abbrev pub tail_numbers : Chunk → ℕ → List ℕ
tail_numbers c i = unflagged (drop i c.gone) (drop i c.numbers)

abbrev pub tail_rows : Chunk → ℕ → List (List Datum)
tail_rows c i = unflagged (drop i c.gone) (drop i (batch_rows c.rows c.columns))

-- a chunk of the last rows of another one, from row i on
pub record IsTail (old : Chunk) (i : ℕ) (new : Chunk) : Type 0 where
  pub within : i < length old.gone
  pub first : new.first ≡ get_or old.numbers i 0
  pub long : IsLong new
  pub end : new.first + new.span ≡ old.first + old.span
  pub rows : (n : ℕ) → new.first ≤ n → number_row new n ≡ number_row old n

-- The last rows of chunk p lie in a chunk of their own after it.
pub record IsSplit (old : List Chunk) (p : ℕ) (tail : Chunk) (new : List Chunk) : Type 0 where
  pub chunk : Chunk
  pub left : Chunk
  pub there : slice_get old p ≡ Some chunk
  pub shortened : IsShortened tail.first chunk left
  pub new_is : new ≡ take p old ++ left ∷ tail ∷ drop (p + 1) old
