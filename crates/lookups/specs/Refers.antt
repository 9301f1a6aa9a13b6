-- The rows that hold a key.
use Rattle.std.specs.BTreeMap.{is_at}
use Rattle.std.specs.List.{list_any}
use Rattle.std.specs.List.Sorted.{IsStrictlySortedBy}
use Rattle.std.specs.Map.{keys_of, lookup}
use Rattle.std.specs.Ordering.{nat_cmp}
use Rattle.std.specs.Prelude.{◌≡◌, ℕ, Bool, false, true, List, [], ◌∷◌, Option, None, Some}
use Rattle.std.specs.declared.cmp.Ordering.{Ordering}
use Rattle.values.specs.contracts.key.KeyOrd.TheImpl as order
use Rattle.values.specs.declared.key.Key.{Key}

abbrev pub key_cmp : Key → Key → Ordering
key_cmp = order.ghosts.cmp

-- the numbers of rows by each key that one of them holds
abbrev pub RowsByKey : Type 0
RowsByKey = List (Key × List ℕ)

abbrev pub found_at : RowsByKey → Key → Option (List ℕ)
found_at rows k = lookup (is_at (key_cmp k)) rows

abbrev pub numbers_in : Option (List ℕ) → List ℕ
numbers_in None = []
numbers_in (Some numbers) = numbers

abbrev pub numbers_of : RowsByKey → Key → List ℕ
numbers_of rows k = numbers_in (found_at rows k)

-- whether a number is among some
abbrev pub is_among : List ℕ → ℕ → Bool
is_among numbers n = list_any (is_at (nat_cmp n)) numbers

-- whether the row of a number holds a key
abbrev pub refers : RowsByKey → Key → ℕ → Bool
refers rows k n = is_among (numbers_of rows k) n

-- a key without a number
abbrev pub is_bare : Option (List ℕ) → Bool
is_bare None = false
is_bare (Some []) = true
is_bare (Some (n ∷ ns)) = false

-- Each key has numbers, which ascend.
pub record HasNumbers (rows : RowsByKey) : Type 0 where
  pub not_bare : (k : Key) → is_bare (found_at rows k) ≡ false
  pub ascending : (k : Key) → IsStrictlySortedBy nat_cmp (numbers_of rows k)

pub record IsOrdered (rows : RowsByKey) : Type 0 where
  pub ascending : IsStrictlySortedBy key_cmp (keys_of rows)
  pub numbers : HasNumbers rows

-- Nothing else is stored than which rows hold which keys.
abbrev pub RefersToAll : Type 0
RefersToAll =
    (rows others : RowsByKey) → IsOrdered rows → IsOrdered others
    → ((k : Key) (n : ℕ) → refers rows k n ≡ refers others k n) → rows ≡ others
