-- The bytes of a bitmap: eight bits to a byte, unused bits zero.
use Rattle.std.specs.Prelude.{◌≡◌, ℕ, zero, suc, ◌+◌, ◌*◌, ◌/◌, Bool, if◌then◌else◌, List, [], ◌∷◌, length, take, drop}
use Rattle.bitmaps.specs.Bits.{bits_at}

-- the least significant bit is the first
abbrev pub byte_of : List Bool → ℕ
byte_of [] = 0
byte_of (b ∷ bs) = (if b then 1 else 0) + 2 * byte_of bs

-- n bytes of bits
abbrev pub packed : ℕ → List Bool → List ℕ
packed zero bs = []
packed (suc n) bs = byte_of (take 8 bs) ∷ packed n (drop 8 bs)

unfoldable pub bytes_of : List Bool → List ℕ
bytes_of bs = packed ((length bs + 7) / 8) bs

-- the bytes are those of their first n bits
abbrev pub IsPacked : List ℕ → ℕ → Type 0
IsPacked bytes n = bytes ≡ bytes_of (bits_at bytes 0 n)
