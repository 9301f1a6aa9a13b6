-- Indices of values among ascending ones.
use Rattle.std.specs.Prelude.{◌≡◌, ℕ, ◌<◌, ◌≤◌, List, Some, length, slice_get, take}
use Rattle.std.specs.List.{AllByRecursion}
use Rattle.std.specs.declared.cmp.Ordering.TheVariants.{Less, Equal, Greater}
use Rattle.values.specs.declared.key.Key.{Key}
use Rattle.group_state.specs.Keys.{key_cmp}

-- A value is above all of these.
abbrev pub ArePast : Key → List (Key × ℕ) → Type 0
ArePast k es = AllByRecursion (λ e. key_cmp k e.0 ≡ Greater) es

-- Entry number n is that value, and those before it are less.
pub record IsThere (k : Key) (n : ℕ) (es : List (Key × ℕ)) : Type 0 where
  pub within : n < length es
  pub past : ArePast k (take n es)
  pub at : (e : Key × ℕ) → slice_get es n ≡ Some e → key_cmp k e.0 ≡ Equal

-- The values before this index are less, and the next one, if there is one, is greater.
pub record IsBefore (k : Key) (n : ℕ) (es : List (Key × ℕ)) : Type 0 where
  pub within : n ≤ length es
  pub past : ArePast k (take n es)
  pub next : (e : Key × ℕ) → slice_get es n ≡ Some e → key_cmp k e.0 ≡ Less
