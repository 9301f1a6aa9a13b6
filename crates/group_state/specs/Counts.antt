-- Counts of values, as ascending entries.
use Rattle.std.specs.Prelude.{ℕ, ℤ, pos, zero, suc, ◌+◌, ◌-◌, ◌+ℤ◌, List, [], ◌∷◌, if◌then◌else◌, nat_lt, Option, None, Some}
use Rattle.std.specs.Option.{unwrap_or}
use Rattle.std.specs.Map.{lookup, remove_entry, set_value}
use Rattle.std.specs.BTreeMap.{insert_entry, is_at}
use Rattle.group_state.specs.Keys.{key_cmp}
use Rattle.values.specs.declared.key.Key.{Key}
use Rattle.values.specs.declared.key.Key.TheVariants as key

abbrev pub keeps_none : List (Key × ℕ)
keeps_none = []

-- how often a value is there
abbrev pub had : List (Key × ℕ) → Key → ℕ
had es k = unwrap_or (lookup (is_at (key_cmp k)) es) 0

-- 1 where two keys are equal, else 0
abbrev pub one : Key → Key → ℕ
one k q = if is_at (key_cmp k) q then 1 else 0

-- a value with n added to its count
abbrev pub put_times : Key → ℕ → List (Key × ℕ) → List (Key × ℕ)
put_times k m es = insert_entry key_cmp es k (had es k + m)

abbrev pub put_one : Key → List (Key × ℕ) → List (Key × ℕ)
put_one k es = put_times k 1 es

abbrev pub taken : Key → ℕ → List (Key × ℕ) → Option ℕ → List (Key × ℕ)
taken k m es None = es
taken k m es (Some n) = if nat_lt m n then set_value (is_at (key_cmp k)) es (n - m) else remove_entry
    (is_at (key_cmp k)) es

-- a value with n subtracted from its count, and not there where the count isn't greater
abbrev pub take_times : Key → ℕ → List (Key × ℕ) → List (Key × ℕ)
take_times k m es = taken k m es (lookup (is_at (key_cmp k)) es)

abbrev pub take_one : Key → List (Key × ℕ) → List (Key × ℕ)
take_one k es = take_times k 1 es

-- the number in a key
abbrev pub number_in : Key → ℤ
number_in (key.Int n) = n
number_in k = pos 0

-- n times a number
abbrev pub times : ℕ → ℤ → ℤ
times zero x = pos 0
times (suc n) x = x +ℤ times n x

-- the sum of the values, each as often as it is there
abbrev pub weighted : List (Key × ℕ) → ℤ
weighted [] = pos 0
weighted (e ∷ es) = times e.1 (number_in e.0) +ℤ weighted es
