-- Which entries there are once one was inserted, removed, or replaced by another of its tuple.
use Rattle.std.proofs.Common.{◌≡◌, ap, ◌∙◌, subst}
use Rattle.std.specs.BTreeMap.{is_at}
use Rattle.std.specs.BTreeSet.{insert_key}
use Rattle.std.specs.List.Sorted.{IsStrictlySortedBy}
use Rattle.std.specs.Prelude.{List, Some, cond, false, true}
use Rattle.std.specs.Set.{remove_key}
use Rattle.values.specs.declared.key.Key.{Key}
use Rattle.group_state.specs.Keys.{tuple_cmp}
use Rattle.top_rows.proofs.InsertedKeys.{any-insert_key, any-remove_key}
use Rattle.top_rows.specs.Ties.{stands_by}
use Rattle.top_rows.specs.declared.sort_key.SortKey.{SortKey}
use Rattle.group_order.proofs.OrderedGroups.{Replaces}
use Rattle.group_order.specs.GroupEntries.{GroupEntry, group_entry_cmp, group_entry_total}

pub inserted : (old new : List GroupEntry) (q : GroupEntry) → new ≡ insert_key group_entry_cmp old q → (p : GroupEntry)
    → stands_by tuple_cmp new p ≡ cond (is_at (group_entry_cmp q) p) true (stands_by tuple_cmp old p)
inserted old new q h p = ap (λ (es : List GroupEntry). stands_by tuple_cmp es p) h ∙ any-insert_key group_entry_total q p old

pub removed : (old new : List GroupEntry) (q : GroupEntry) → IsStrictlySortedBy group_entry_cmp old
    → new ≡ remove_key (is_at (group_entry_cmp q)) old → (p : GroupEntry)
    → stands_by tuple_cmp new p ≡ cond (is_at (group_entry_cmp q) p) false (stands_by tuple_cmp old p)
removed old new q s h p =
    ap (λ (es : List GroupEntry). stands_by tuple_cmp es p) h ∙ any-remove_key group_entry_total q p old s

pub exchanged : (old mid new : List GroupEntry) (before after : List SortKey) (t u : List Key) → u ≡ t
    → IsStrictlySortedBy group_entry_cmp old → mid ≡ remove_key (is_at (group_entry_cmp (before, t))) old
    → new ≡ insert_key group_entry_cmp mid (after, u)
    → Replaces (Some (before, t)) (Some (after, t)) old new
exchanged old mid new before after t u same s gone come =
    λ there p. inserted mid new (after, t) (subst (λ v. new ≡ insert_key group_entry_cmp mid (after, v)) same come) p
    ∙ ap (cond (is_at (group_entry_cmp (after, t)) p) true) (removed old mid (before, t) s gone p)
