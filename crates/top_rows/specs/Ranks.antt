-- Ranks of sort keys: numbers that are ordered as the sort keys are, but for those of one rank. Those of ascending keys
-- come first, then those of descending ones, and then that of a missing one.
use Rattle.std.specs.Prelude.{◌≡◌, ◌<◌, ◌≤◌, ◌+◌, ◌-◌, ℕ, List, [], ◌∷◌}
use Rattle.values.specs.Keys.{datum_of_key}
use Rattle.key_ranks.specs.Ranks.{IsCellRank, key_ranks}
use Rattle.top_rows.specs.declared.sort_key.SortKey.{SortKey}
use Rattle.top_rows.specs.declared.sort_key.SortKey.TheVariants as sort_key

-- the rank of sort keys is that of the first of them
abbrev pub IsRank : List SortKey → ℕ → Type 0
IsRank [] r = r ≡ 0
IsRank (sort_key.Ascending k ∷ ks) r = IsCellRank (datum_of_key k) r
IsRank (sort_key.Descending k ∷ ks) r =
    (key_ranks ≤ r) × (r < key_ranks + key_ranks) × IsCellRank (datum_of_key k.0) (key_ranks + key_ranks - 1 - r)
IsRank (sort_key.Missing ∷ ks) r = r ≡ key_ranks + key_ranks
