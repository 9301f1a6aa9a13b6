-- Ranks of keys: numbers that are ordered as the keys are, but for those of one rank. Truth values share the first rank;
-- then come those of numbers, those of texts, and last the one that bytes and nulls share.
use Rattle.std.specs.Prelude.{
  ◌≡◌,
  ◌⊎◌,
  ◌<◌,
  ◌≤◌,
  ◌+◌,
  ◌++◌,
  ◌*◌,
  ◌-◌,
  ◌^◌,
  ◌<ℤ◌,
  ◌≤ℤ◌,
  ◌+ℤ◌,
  ℕ,
  ℤ,
  pos,
  List,
  length,
  replicate,
  take,
}
use Rattle.std.proofs.Math.ListN.{get_or}
use Rattle.values.specs.Datum.{Datum, truth, whole, text}
use Rattle.values.specs.SmallBytes.{spelled}

-- how many ranks keys have, and how many of these are those of numbers, and then those of texts
abbrev pub key_ranks : ℕ
key_ranks = 2 ^ 62

abbrev pub half_ranks : ℕ
half_ranks = 2 ^ 61

-- how many negative numbers have ranks of their own
abbrev pub negative_ranks : ℕ
negative_ranks = 2 ^ 60

-- A number below all that have ranks of their own has the first rank, and one above them the last.
abbrev pub IsNumberRank : ℤ → ℕ → Type 0
IsNumberRank n r =
    (((n +ℤ pos negative_ranks) <ℤ pos 0) × (r ≡ 0))
    ⊎ (((n +ℤ pos negative_ranks ≡ pos r) × (r < half_ranks))
    ⊎ ((pos half_ranks ≤ℤ (n +ℤ pos negative_ranks)) × (r + 1 ≡ half_ranks)))

-- the number that the first eight bytes spell, with zeros after fewer
abbrev pub first_word : List ℕ → ℕ
first_word bs = spelled 0 (take 8 bs ++ replicate (8 - length bs) 0)

-- The rank of a text is that of its first 61 bits. That it consists of bytes is part of this: greater numbers spell words
-- in another order than theirs.
abbrev pub IsTextRank : List ℕ → ℕ → Type 0
IsTextRank t r =
    ((k : ℕ) → get_or t k 0 < 256)
    × (half_ranks ≤ r) × (r < key_ranks)
    × ((r - half_ranks) * 8 ≤ first_word t) × (first_word t < (r - half_ranks) * 8 + 8)

abbrev pub IsCellRank : Datum → ℕ → Type 0
IsCellRank (truth b) r = r ≡ 0
IsCellRank (whole n) r = IsNumberRank n r
IsCellRank (text t) r = IsTextRank t r
IsCellRank d r = r + 1 ≡ key_ranks
