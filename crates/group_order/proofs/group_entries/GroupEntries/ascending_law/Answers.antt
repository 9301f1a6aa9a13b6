use Rattle.std.proofs.Common.{ap, sym, ◌∙◌}
use Rattle.group_state.specs.Keys.{tuple_cmp}
use Rattle.top_rows.proofs.ShortEntries.{ascending-pairs}
use Rattle.top_rows.specs.ShortEntries.{one-ordered, sort_keys_of_one}
use Rattle.top_rows.specs.contracts.short_key.ShortKeyOrd.TheImpl as order
use Rattle.group_order.specs.EntryForms.{entries_in}
use Rattle.group_order.proofs.group_entries.GroupEntries.ascending_law.Goals as goal

pub returns-in-Short : goal.returns-in-Short
returns-in-Short c =
    ascending-pairs order.ghosts.cmp tuple_cmp sort_keys_of_one one-ordered c.in-Short.pairs.keys c.args.self.now
    (ap entries_in (sym c.in-Short.is) ∙ c.self.view_is) c.len-size.ensures.ordered
