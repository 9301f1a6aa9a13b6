use Rattle.std.proofs.Common.{ap, sym}
use Rattle.group_state.specs.Keys.{tuple_cmp}
use Rattle.top_rows.proofs.ShortEntries.{remove-pair}
use Rattle.top_rows.specs.ShortEntries.{one-ordered, sort_keys_of_one}
use Rattle.top_rows.specs.contracts.short_key.ShortKeyOrd.TheImpl as order
use Rattle.group_order.specs.EntryForms.{entries_in}
use Rattle.group_order.proofs.group_entries.remove.Goals as goal

pub returns-in-Some-clause-removed : goal.returns-in-Some-clause-removed
returns-in-Some-clause-removed c =
    remove-pair order.ghosts.cmp tuple_cmp sort_keys_of_one one-ordered c.in-Short.pairs.keys
    (entries_in c.args.form.now) (ap entries_in (sym c.in-Short.is)) c.remove-there.new.self.keys
    (c.args.sort_keys, c.args.tuple) (c.in-Some.key, c.args.tuple) (ap (λ keys. (keys, c.args.tuple)) c.in-Some.ensures)
    c.remove-there.ensures.keys
