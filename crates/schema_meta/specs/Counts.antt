-- Counts in tables of metadata, with the fault of one that is out of range.
use Rattle.std.specs.Prelude.{ℕ, ℤ, pos, negsuc, Ok, Err, nat_le, if◌then◌else◌}
use Rattle.flatbuf.specs.Layout.{Table}
use Rattle.values.specs.declared.faults.StreamFault.{StreamFault}
use Rattle.values.specs.Reading.{Reading, ◌>>=◌, one}
use Rattle.field_types.specs.Reads.{long_of}

-- a number that must lie between 0 and this one
abbrev pub within : StreamFault → ℕ → ℤ → Reading ℕ
within c most (pos n) = if nat_le n most then Ok n else Err (one c)
within c most (negsuc n) = Err (one c)

-- a count in a slot of 64 bits, 0 where it is absent
abbrev pub count_in : StreamFault → ℕ → Table → ℕ → Reading ℕ
count_in c most t slot = long_of t slot >>= within c most
