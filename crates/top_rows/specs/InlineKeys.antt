-- Sort keys as kinds and keys.
use Rattle.std.specs.Prelude.{◌≡◌, List, [], ◌∷◌}
use Rattle.std.specs.Ordering.{ordering_then}
use Rattle.std.specs.declared.cmp.Ordering.{Ordering}
use Rattle.values.specs.contracts.key.KeyOrd.TheImpl as order
use Rattle.values.specs.declared.key.Key.{Key}
use Rattle.values.specs.declared.key.Key.TheVariants as key
use Rattle.top_rows.specs.contracts.inline_kind.InlineKindOrd.TheImpl as kinds
use Rattle.top_rows.specs.declared.inline_kind.InlineKind.{InlineKind}
use Rattle.top_rows.specs.declared.inline_kind.InlineKind.TheVariants as kind
use Rattle.top_rows.specs.declared.sort_key.SortKey.{SortKey}
use Rattle.top_rows.specs.declared.sort_key.SortKey.TheVariants as sort_key

-- the list of a sort key of a kind and a key, and of others
abbrev pub listed : InlineKind → Key → List SortKey → List SortKey
listed kind.NoKey k others = others
listed kind.Ascending k others = sort_key.Ascending k ∷ others
listed kind.Descending k others = sort_key.Descending (record { 0 = k }) ∷ others
listed kind.Missing k others = sort_key.Missing ∷ others

-- A sort key without a key has null in its place, and where there is no sort key, there are no others.
abbrev pub IsListed : InlineKind → Key → List SortKey → Type 0
IsListed kind.NoKey k others = (k ≡ key.Null) × (others ≡ [])
IsListed kind.Missing k others = k ≡ key.Null
IsListed a k others = Unit {0}

-- how keys are compared in sort keys of a kind
abbrev pub cmp_in : InlineKind → Key → Key → Ordering
cmp_in kind.Descending x y = order.ghosts.cmp y x
cmp_in a x y = order.ghosts.cmp x y

-- the order of sort keys as kinds and keys: by their kinds, then by their keys
abbrev pub inline_cmp : InlineKind → Key → InlineKind → Key → Ordering
inline_cmp a x b y = ordering_then (kinds.ghosts.cmp a b) (cmp_in a x y)
