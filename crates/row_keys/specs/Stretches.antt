-- Consecutive numbers whose rows lie one after the other in a chunk.
use Rattle.std.specs.Prelude.{ℕ, ◌+◌, ◌-◌, ◌^◌, ◌<◌, ◌≤◌, List}
use Rattle.row_keys.specs.Chunks.{Chunk, LiesAt}
use Rattle.row_keys.specs.declared.stretches.Stretch.{Stretch}

-- Number n is one of them.
abbrev pub HasNumber : Stretch → ℕ → Type 0
HasNumber s n = (s.first ≤ n) × (n < s.first + s.rows)

-- where its row lies in the chunk
abbrev pub row_at : Stretch → ℕ → ℕ
row_at s n = s.index + (n - s.first)

-- The row of each of the numbers lies there.
pub record IsStretch (cs : List Chunk) (s : Stretch) : Type 0 where
  pub lies : (n : ℕ) → HasNumber s n → LiesAt cs n s.chunk (row_at s n)
  pub small : s.index + s.rows < 2 ^ 64

-- and number n is one of them
abbrev pub IsStretchWith : List Chunk → ℕ → Stretch → Type 0
IsStretchWith cs n s = IsStretch cs s × HasNumber s n
