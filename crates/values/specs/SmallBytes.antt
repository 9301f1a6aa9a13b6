-- What contracts see of bytes that are stored inline where they are few.
use Rattle.std.specs.Prelude.{◌≡◌, ◌≤◌, ◌<◌, ◌+◌, ◌*◌, ◌-◌, ◌∷◌, [], ℕ, List, drop, length, replicate, take}
use Rattle.values.specs.declared.small_bytes.Room.{Room}
use Rattle.values.specs.declared.small_bytes.Room.TheVariants.{Inline, Heap}

-- the bytes
abbrev pub bytes_in : Room → List ℕ
bytes_in (Inline len room) = take len room
bytes_in (Heap head bytes) = bytes.value.items

-- n bytes are stored inline, with zeros after them
abbrev pub IsInline : ℕ → List ℕ → Type 0
IsInline len room = (len ≤ 22) × (drop len room ≡ replicate (22 - len) 0)

-- the first of many bytes are stored beside their pointer
abbrev pub IsRoom : Room → Type 0
IsRoom (Inline len room) = IsInline len room
IsRoom (Heap head bytes) = (22 < length bytes.value.items) × (head ≡ take 15 bytes.value.items)

-- the number whose digits in base 256 are those of n and then bytes
abbrev pub spelled : ℕ → List ℕ → ℕ
spelled n [] = n
spelled n (b ∷ bs) = spelled (n * 256 + b) bs
