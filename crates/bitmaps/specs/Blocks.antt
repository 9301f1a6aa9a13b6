-- Bits that are read eight or 256 at a time, as a byte or as a vector of 32 bytes.
use Rattle.std.specs.Prelude.{◌≡◌, ℕ, ◌*◌, ◌-◌, ◌/◌, ◌%◌, ◌^◌, ◌<◌, ◌≤◌, Bool, List, length, take, bit_or}
use Rattle.bitmaps.specs.Bits.{bit_at}

-- these bytes hold n bits, and bit k is f k
pub record AreBits (n : ℕ) (bytes : List ℕ) (f : ℕ → Bool) : Type 0 where
  pub long : 8 * length bytes ≡ n
  pub each : (k : ℕ) → k < n → bit_at bytes k ≡ f k

-- the byte that begins at bit r of one byte and ends in the next
unfoldable pub joined_byte : ℕ → ℕ → ℕ → ℕ
joined_byte r low high = bit_or (low / 2 ^ r) (high * 2 ^ (8 - r) % 2 ^ 8)

-- a prefix of a list
pub record IsBegun (made bs : List Bool) : Type 0 where
  pub short : length made ≤ length bs
  pub same : made ≡ take (length made) bs
