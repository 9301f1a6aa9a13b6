use Rattle.std.proofs.Common.{ap, sym, ◌∙◌, take}
use Rattle.std.specs.List.{filter_map}
use Rattle.std.specs.Prelude.{List}
use Rattle.top_rows.specs.ShortEntries.{short_entry, sort_keys_of_one}
use Rattle.group_state.specs.Aggregates.{seen_at}
use Rattle.group_order.specs.EntryForms.{entries_in}
use Rattle.group_order.specs.GroupEntries.{GroupEntry}
use Rattle.group_order.proofs.LentRows.{found-mapped}
use Rattle.group_order.proofs.group_entries.GroupEntries.first_rows.Goals as goal

pub returns-in_ok-made-in-Short : goal.returns-in_ok-made-in-Short
returns-in_ok-made-in-Short c =
    let find = λ (p : GroupEntry). seen_at c.args.outputs.now c.args.groups.now p.1 in
    c.in_ok-made-in-Short.ensures
    ∙ ap (take c.args.most) (found-mapped find (short_entry sort_keys_of_one) c.in-Short.pairs.keys)
    ∙ ap (λ (l : List GroupEntry). take c.args.most (filter_map find l))
    (ap entries_in (sym c.in-Short.is) ∙ c.self.view_is)
