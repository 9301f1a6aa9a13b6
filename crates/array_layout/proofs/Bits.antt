-- How many bits there can be.
use Rattle.std.proofs.Common.{ℕ, List, ◌≤◌, arith}
use Rattle.bitmaps.specs.Bits.{bits_at, ones}
use Rattle.bitmaps.proofs.Runs.{ones-le, length-bits_at}

pub ones-within : (bytes : List ℕ) (i n : ℕ) → ones (bits_at bytes i n) ≤ n
ones-within bytes i n = omega (arith, ones-le (bits_at bytes i n), length-bits_at bytes i n)

pub ruleset bit_counts = (ones-within)
