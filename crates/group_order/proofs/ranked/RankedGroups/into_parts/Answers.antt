use Rattle.std.proofs.Common.{ap, sym, ◌∙◌, subst}
use Rattle.std.specs.List.Sorted.{IsStrictlySortedBy}
use Rattle.group_order.specs.GroupEntries.{group_entry_cmp}
use Rattle.group_order.proofs.ranked.RankedGroups.into_parts.Goals as goal

pub returns-clause-kept : goal.returns-clause-kept
returns-clause-kept c = record {
  groups = c.in_ok-into_parts.ensures.kept;
  ascending = subst (IsStrictlySortedBy group_entry_cmp) (sym c.in_ok-into_parts-2.ensures) c.ascending_law.ensures;
}
