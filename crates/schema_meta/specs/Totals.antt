-- How many fields there are at all levels, by the counts of their vectors: also where the entries can't be read. Below
-- a field whose kind can't be read or isn't supported nothing is read, and so nothing is counted.
use Rattle.std.specs.Prelude.{ℕ, zero, suc, ◌+◌, Option, None, Some}
use Rattle.flatbuf.specs.Layout.{Vector}
use Rattle.schema_meta.specs.Fields.{child_at}

-- f i + f (i + 1) + .., of n numbers
unfoldable pub sum_from : (ℕ → ℕ) → ℕ → ℕ → ℕ
sum_from f i zero = 0
sum_from f i (suc n) = f i + sum_from f (i + 1) n

abbrev pub total_in : (Vector → ℕ) → Option Vector → ℕ
total_in total None = 0
total_in total (Some w) = total w

-- the fields below field i
unfoldable pub total_at : (Vector → ℕ) → Vector → ℕ → ℕ
total_at total v i = total_in total (child_at v i)

-- the fields of a vector and those below them, of this many levels
unfoldable pub total : ℕ → Vector → ℕ
total zero v = 0
total (suc depth) v = v.count + sum_from (total_at (total depth) v) 0 v.count
