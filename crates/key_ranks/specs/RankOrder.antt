-- What ranks say about the order of keys.
use Rattle.std.specs.Prelude.{◌≡◌, ◌<◌, ℕ}
use Rattle.std.specs.Cmp.{IsTotalOrder}
use Rattle.std.specs.declared.cmp.Ordering.{Ordering}
use Rattle.std.specs.declared.cmp.Ordering.TheVariants.{Less}
use Rattle.values.specs.contracts.key.KeyOrd.TheImpl as order
use Rattle.values.specs.contracts.key.KeyOrd.TheImpl.Laws.{total-law}
use Rattle.values.specs.declared.key.Key.{Key}
use Rattle.values.specs.Keys.{datum_of_key}
use Rattle.key_ranks.specs.Ranks.{IsCellRank}

abbrev pub key_cmp : Key → Key → Ordering
key_cmp = order.ghosts.cmp

pub key_total : IsTotalOrder key_cmp
key_total = total-law

-- of two keys the one of the lower rank comes first
abbrev pub RanksAreOrdered : Type 0
RanksAreOrdered =
    (x y : Key) (r s : ℕ) → IsCellRank (datum_of_key x) r → IsCellRank (datum_of_key y) s → r < s → key_cmp x y ≡ Less
