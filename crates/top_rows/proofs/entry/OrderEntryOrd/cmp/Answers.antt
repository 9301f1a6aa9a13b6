use Rattle.std.proofs.Common.{ap₂, ◌∙◌}
use Rattle.std.specs.Ordering.{nat_cmp}
use Rattle.top_rows.specs.EntryOrder.{entry_cmp}
use Rattle.top_rows.proofs.RankLemmas.{entries-ranked}
use Rattle.top_rows.proofs.entry.OrderEntryOrd.cmp.Goals as goal

pub returns-in_default : goal.returns-in_default
returns-in_default c =
    entries-ranked nat_cmp (c.self.inside.sort_keys, c.self.inside.number) (
      c.other.inside.sort_keys,
      c.other.inside.number,
    ) c.self.inside.rank c.other.inside.rank c.cmp.result c.self.invariant c.other.invariant c.cmp.ensures
    c.in_default.not-Equal
    ∙ ap₂ entry_cmp c.self.view_is c.other.view_is
