-- What contracts see of groups that are stored with the order of their rows.
use Rattle.std.specs.Prelude.{◌≡◌, ◌||◌, ℕ, Bool, cond, false, filter, is_some, length, List, nat_lt, None, Option, Some, true}
use Rattle.std.specs.BTreeMap.{is_at}
use Rattle.std.specs.Option.{option_map}
use Rattle.values.specs.Datum.{Datum}
use Rattle.values.specs.declared.key.Key.{Key}
use Rattle.view_lang.specs.Filter.{Filter}
use Rattle.view_lang.specs.Groups.{group_rows}
use Rattle.view_lang.specs.Outputs.{GroupOutput}
use Rattle.view_lang.specs.RowOrder.{row_cmp}
use Rattle.view_lang.specs.Sorted.{sorted}
use Rattle.view_lang.specs.Truth.{passes}
use Rattle.view_lang.specs.declared.view.OrderBy.{OrderBy}
use Rattle.group_state.specs.Grouped.{Grouped}
use Rattle.group_state.specs.Groups.{Keeps as KeepsGroups}
use Rattle.group_state.specs.Keys.{tuple_cmp}
use Rattle.group_state.specs.Aggregates.{seen_at}
use Rattle.top_rows.specs.SortKeys.{sort_keys_of}
use Rattle.top_rows.specs.Ties.{KeepsBy, is_entry_by, pick, stands_by, without}
use Rattle.top_rows.specs.declared.sort_key.SortKey.{SortKey}
use Rattle.group_order.specs.GroupEntries.{GroupEntry, group_entry_cmp}

-- what is shown of groups, of which of them, and in which order
pub record Ranking : Type 0 where
  pub outputs : List GroupOutput
  pub having : Option Filter
  pub order : List OrderBy

abbrev pub ranking_by : List GroupOutput → Option Filter → List OrderBy → Ranking
ranking_by outputs having order = record { outputs = outputs; having = having; order = order }

-- the groups, what is shown of them, and the entries of the rows shown
pub record Ranked : Type 0 where
  pub groups : Grouped
  pub ranking : Ranking
  pub entries : List GroupEntry

abbrev pub if_passing : Option Filter → Option (List Datum) → Option (List Datum)
if_passing having None = None
if_passing having (Some row) = cond (passes having row) (Some row) None

-- the row that is shown of a tuple's group: none where there is no such group, or where its row doesn't pass
abbrev pub shown_at : Ranking → Grouped → List Key → Option (List Datum)
shown_at r g t = if_passing r.having (seen_at r.outputs g t)

-- There are entries where there is an order or a filter. Else all groups are shown, in their own order.
abbrev pub has_entries : Ranking → Bool
has_entries r = is_some r.having || nat_lt 0 (length r.order)

-- the row of a tuple's group that has an entry
abbrev pub placed_at : Ranking → Grouped → List Key → Option (List Datum)
placed_at r g t = cond (has_entries r) (shown_at r g t) None

-- the sort keys of the entry of a group's row, if it has one
abbrev pub keys_read : Ranking → List Datum → Option (List SortKey)
keys_read r row = cond (has_entries r) (option_map (sort_keys_of r.order) (if_passing r.having (Some row))) None

-- the entry of a tuple's row with these sort keys, if there are such
abbrev pub named : List Key → Option (List SortKey) → Option GroupEntry
named t None = None
named t (Some keys) = Some (keys, t)

-- whether there is an entry, and it is this one
abbrev pub is_there : Option GroupEntry → GroupEntry → Bool
is_there None p = false
is_there (Some q) p = is_at (group_entry_cmp q) p

-- the rows that are shown of the groups of some rows, in their order
abbrev pub ranked_rows : List ℕ → Ranking → List (List Datum) → List (List Datum)
ranked_rows by r rows = sorted (row_cmp r.order) (filter (passes r.having) (group_rows by r.outputs rows))

-- The entries are those of the rows that are shown of the groups, and no others; there are none where all groups are
-- shown in their own order.
abbrev pub IsRanked : Ranked → Type 0
IsRanked s = KeepsBy tuple_cmp s.ranking.order s.entries (placed_at s.ranking s.groups)

-- The groups are those of these rows, and the order is theirs.
pub record Keeps (s : Ranked) (rows : List (List Datum)) : Type 0 where
  pub groups_are : KeepsGroups s.groups rows
  pub ranked : IsRanked s

-- These entries were removed, where they were there, and those were inserted.
abbrev pub AreExchanged : (GroupEntry → Bool) → (GroupEntry → Bool) → List GroupEntry → List GroupEntry → Type 0
AreExchanged before after old new =
    ((p : GroupEntry) → before p ≡ true → stands_by tuple_cmp old p ≡ true)
    → (p : GroupEntry)
    → stands_by tuple_cmp new p ≡ cond (after p) true (cond (before p) false (stands_by tuple_cmp old p))

-- These are the entries that were there, but with that of a tuple's row, or without it.
abbrev pub AreWithEntry : Bool → Ranked → List Key → List GroupEntry → Type 0
AreWithEntry there s t entries =
    (p : GroupEntry)
    → stands_by tuple_cmp entries p
    ≡ cond (is_entry_by tuple_cmp s.ranking.order t (placed_at s.ranking s.groups t) p) there
    (stands_by tuple_cmp s.entries p)

-- The entries of these tuples' rows were inserted: there were none of them before.
abbrev pub AreWithAll : Ranked → List (List Key) → List GroupEntry → Type 0
AreWithAll s ts entries =
    (before : List Key → Option (List Datum))
    → KeepsBy tuple_cmp s.ranking.order s.entries (without tuple_cmp ts before)
    → KeepsBy tuple_cmp s.ranking.order entries
    (pick tuple_cmp ts (placed_at s.ranking s.groups) (without tuple_cmp ts before))
