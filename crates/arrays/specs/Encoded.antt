-- What is read from a slot that is an index into a dictionary.
use Rattle.std.specs.Prelude.{ℕ, ◌+◌, ◌-◌, ◌*◌, ◌^◌, ◌≤◌, Bool, true, false, List, length, min}
use Rattle.values.specs.declared.layout.Layout.{Layout}
use Rattle.values.specs.declared.layout.Layout.TheVariants.{Int}
use Rattle.values.specs.Layouts.{bytes_in}
use Rattle.array_layout.specs.declared.array.ArrayData.{ArrayData}

-- there is an index in slot i
abbrev pub HasIndex : Layout → ArrayData → ℕ → Type 0
HasIndex (Int w s) p i = bytes_in w * (i + 1) ≤ p.values.len
HasIndex l p i = Unit {0}

-- there is an index in each of the first n slots
abbrev pub HasIndices : Layout → List ℕ → ℕ → Type 0
HasIndices (Int w s) indices n = bytes_in w * n ≤ length indices
HasIndices l indices n = Unit {0}

-- The numbers of w bytes that are indices into n values, read without their signs, are those below this bound: a
-- negative one is at least half of what its width holds.
abbrev pub index_bound : Bool → ℕ → ℕ → ℕ
index_bound true w n = min n (2 ^ (8 * w - 1))
index_bound false w n = n
