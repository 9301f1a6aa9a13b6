-- Groups taken apart.
use Rattle.std.specs.List.{All}
use Rattle.std.specs.List.Sorted.{IsStrictlySortedBy}
use Rattle.std.specs.Map.{keys_of, values_of}
use Rattle.std.specs.Prelude.{ℕ, ◌<◌, List, map}
use Rattle.group_state.specs.GroupCounts.{GroupCounts}
use Rattle.group_state.specs.Grouped.{Grouped}
use Rattle.group_state.specs.Keys.{key_cmp, tuple_cmp}
use Rattle.group_state.specs.declared.parts.GroupParts.{GroupParts}
use Rattle.group_state.specs.declared.parts.GroupsParts.{GroupsParts}
use Rattle.group_state.specs.declared.parts.MultisetParts.{MultisetParts}
use Rattle.group_state.specs.declared.parts.TallyParts.{TallyParts}
use Rattle.group_state.specs.declared.parts.TallyParts.TheVariants as parts
use Rattle.group_state.specs.declared.parts.ValueCount.{ValueCount}
use Rattle.group_state.specs.declared.tally.Tally.{Tally}
use Rattle.group_state.specs.declared.tally.Tally.TheVariants as tally
use Rattle.values.specs.declared.key.Key.{Key}

abbrev pub count_with : ValueCount → Key × ℕ
count_with c = (c.value, c.count)

abbrev pub counts_with : MultisetParts → List (Key × ℕ)
counts_with m = map count_with m.counts.items

abbrev pub tally_with : TallyParts → Tally
tally_with (parts.Total t) = tally.Total t
tally_with (parts.Values m) = tally.Values (counts_with m)

abbrev pub group_with : GroupParts → List Key × GroupCounts
group_with g = (g.tuple.items, record { rows = g.rows; tallies = map tally_with g.tallies.items })

-- the groups that have these parts
abbrev pub grouped_with : GroupsParts → Grouped
grouped_with p = record { keys = p.keys.items; columns = p.columns.items; groups = map group_with p.groups.items }

-- Values ascend, and none is there 0 times.
pub record IsMultiset (m : MultisetParts) : Type 0 where
  pub ascending : IsStrictlySortedBy key_cmp (keys_of (counts_with m))
  pub present : All (λ n. 0 < n) (values_of (counts_with m))

abbrev pub IsTally : TallyParts → Type 0
IsTally (parts.Total t) = Unit {0}
IsTally (parts.Values m) = IsMultiset m

abbrev pub IsGroup : GroupParts → Type 0
IsGroup g = All IsTally g.tallies.items

-- groups that are those of some rows
pub record AreGroups (p : GroupsParts) : Type 0 where
  pub groups : All IsGroup p.groups.items
  pub ascending : IsStrictlySortedBy tuple_cmp (keys_of (map group_with p.groups.items))
