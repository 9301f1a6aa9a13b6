-- Buffers one after the other in a body (Arrow Columnar Format, "Encapsulated message format" and "RecordBatch
-- message").
use Rattle.std.specs.Prelude.{ℕ, ◌+◌, ◌-◌, ◌%◌, List, [], ◌∷◌, ◌++◌, length, replicate}
use Rattle.std.specs.List.{flat_map}
use Rattle.array_layout.specs.declared.array.BufferRange.{BufferRange}

-- how many zeros fill n bytes up to a multiple of 8
abbrev pub padding : ℕ → ℕ
padding n = (8 - n % 8) % 8

-- a buffer and the zeros up to a multiple of 8
abbrev pub padded : List ℕ → List ℕ
padded xs = xs ++ replicate (padding (length xs)) 0

abbrev pub laid : List (List ℕ) → List ℕ
laid xs = flat_map padded xs

-- where the buffers lie in the body, the first at `at`, and their lengths without padding
abbrev pub ranges_from : ℕ → List (List ℕ) → List BufferRange
ranges_from at [] = []
ranges_from at (x ∷ xs) = record { from = at; len = length x } ∷ ranges_from (at + length (padded x)) xs
