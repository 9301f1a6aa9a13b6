-- Groups and their order taken apart.
use Rattle.std.specs.List.Sorted.{IsStrictlySortedBy}
use Rattle.std.specs.Prelude.{map}
use Rattle.group_state.specs.GroupParts.{AreGroups, grouped_with}
use Rattle.group_order.specs.GroupEntries.{GroupEntry, group_entry_cmp}
use Rattle.group_order.specs.Ranked.{Ranked}
use Rattle.group_order.specs.declared.parts.GroupEntryParts.{GroupEntryParts}
use Rattle.group_order.specs.declared.parts.RankedParts.{RankedParts}

-- the entry that has these parts
abbrev pub entry_with : GroupEntryParts → GroupEntry
entry_with p = (p.sort_keys.items, p.tuple.items)

-- the groups and the order that have these parts
abbrev pub ranked_with : RankedParts → Ranked
ranked_with p = record {
  groups = grouped_with p.groups;
  ranking = p.ranking;
  entries = map entry_with p.entries.items;
}

-- those of some rows
pub record AreRanked (p : RankedParts) : Type 0 where
  pub groups : AreGroups p.groups
  pub ascending : IsStrictlySortedBy group_entry_cmp (map entry_with p.entries.items)
