-- Texts of at most 14 bytes, in arrays of that length.
use Rattle.std.specs.Prelude.{◌≡◌, ◌≤◌, ◌-◌, ℕ, List, drop, replicate, take}
use Rattle.std.specs.Str.{IsUtf8}

-- the first bytes are a text, and the others zeros
abbrev pub IsShortText : ℕ → List ℕ → Type 0
IsShortText len bytes = (len ≤ 14) × (drop len bytes ≡ replicate (14 - len) 0) × IsUtf8 (take len bytes)
