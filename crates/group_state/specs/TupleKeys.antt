-- What contracts see of a tuple.
use Rattle.std.specs.Prelude.{◌≡◌, ℕ, List, [], ◌∷◌}
use Rattle.values.specs.declared.key.Key.{Key}
use Rattle.values.specs.Keys.{datum_of_key}
use Rattle.key_ranks.specs.Ranks.{IsCellRank}
use Rattle.group_state.specs.declared.tuple.TupleKeys.{TupleKeys}
use Rattle.group_state.specs.declared.tuple.TupleKeys.TheVariants.{One, Many}

-- the keys, in order
abbrev pub keys_in : TupleKeys → List Key
keys_in (One r k) = k ∷ []
keys_in (Many r ks) = ks.items

-- the rank that is stored with them
abbrev pub rank_in : TupleKeys → ℕ
rank_in (One r k) = r
rank_in (Many r ks) = r

-- The rank of a tuple is that of its first key, or 0 where it has none.
abbrev pub IsTupleRank : List Key → ℕ → Type 0
IsTupleRank [] r = r ≡ 0
IsTupleRank (k ∷ ks) r = IsCellRank (datum_of_key k) r
