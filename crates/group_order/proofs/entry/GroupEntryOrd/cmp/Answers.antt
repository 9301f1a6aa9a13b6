use Rattle.std.proofs.Common.{ap₂, ◌∙◌}
use Rattle.group_state.specs.Keys.{tuple_cmp}
use Rattle.group_order.specs.GroupEntries.{group_entry_cmp}
use Rattle.top_rows.proofs.RankLemmas.{entries-ranked}
use Rattle.group_order.proofs.entry.GroupEntryOrd.cmp.Goals as goal

pub returns-in_default : goal.returns-in_default
returns-in_default c =
    entries-ranked tuple_cmp (c.self.inside.sort_keys, c.self.inside.tuple) (
      c.other.inside.sort_keys,
      c.other.inside.tuple,
    ) c.self.inside.rank c.other.inside.rank c.cmp.result c.self.invariant c.other.invariant
    c.cmp.ensures c.in_default.not-Equal
    ∙ ap₂ group_entry_cmp c.self.view_is c.other.view_is
