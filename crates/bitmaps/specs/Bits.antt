-- The bits of a bitmap (Arrow Columnar Format, "Validity bitmaps"), and operations on lists of them.
use Rattle.std.specs.Prelude.{
  ℕ,
  zero,
  suc,
  ◌+◌,
  ◌*◌,
  ◌/◌,
  ◌%◌,
  ◌^◌,
  ◌≤◌,
  ◌==◌,
  Bool,
  if◌then◌else◌,
  List,
  [],
  ◌∷◌,
  length,
  slice_index,
}

-- bit i: bit i mod 8, least significant first, of byte i / 8
abbrev pub bit_at : List ℕ → ℕ → Bool
bit_at bytes i = slice_index bytes (i / 8) / 2 ^ (i % 8) % 2 == 1

-- n bits, the first of them bit i
unfoldable pub bits_at : List ℕ → ℕ → ℕ → List Bool
bits_at bytes i zero = []
bits_at bytes i (suc n) = bit_at bytes i ∷ bits_at bytes (i + 1) n

-- the bytes hold at least n bits
abbrev pub HasBits : List ℕ → ℕ → Type 0
HasBits bytes n = n ≤ 8 * length bytes

-- how many bits of a list are 1
unfoldable pub ones : List Bool → ℕ
ones [] = 0
ones (b ∷ bs) = (if b then 1 else 0) + ones bs

-- f of each bit of the first list and the bit of the second at its index; the lists are of one length
unfoldable pub pairwise : (Bool → Bool → Bool) → List Bool → List Bool → List Bool
pairwise f [] ys = []
pairwise f (x ∷ xs) [] = []
pairwise f (x ∷ xs) (y ∷ ys) = f x y ∷ pairwise f xs ys

-- bit i of the first where bit i of the mask is 1, else of the second
unfoldable pub selected : List Bool → List Bool → List Bool → List Bool
selected [] xs ys = []
selected (m ∷ ms) [] ys = []
selected (m ∷ ms) (x ∷ xs) [] = []
selected (m ∷ ms) (x ∷ xs) (y ∷ ys) = (if m then x else y) ∷ selected ms xs ys
