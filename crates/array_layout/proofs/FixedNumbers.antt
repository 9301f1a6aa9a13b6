-- Numbers that are read from the bytes of their slot alone.
use Rattle.std.proofs.Common.{◌≡◌, ℕ, ◌+◌, ◌-◌, ◌*◌, List, drop, arith}
use Rattle.std.specs.Prelude.{slice_range}
use Rattle.byteorder.specs.Endian.{little_number}
use Rattle.byteorder.specs.Numbers.{little_from-take}

-- the number in the bytes of slot i
pub fixed_number : (n i : ℕ) (bytes : List ℕ)
    → little_number n (slice_range bytes (n * i) (n * i + n)) ≡ little_number n (drop (n * i) bytes)
fixed_number n i bytes = little_from-take 0 n (n * i + n - n * i) (drop (n * i) bytes) (omega arith)

pub ruleset numbers = (fixed_number)
