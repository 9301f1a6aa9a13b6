use Rattle.std.proofs.Common.{ap, sym}
use Rattle.group_state.specs.Keys.{tuple_cmp}
use Rattle.top_rows.proofs.ShortEntries.{insert-pair}
use Rattle.top_rows.specs.ShortEntries.{one-ordered, sort_keys_of_one}
use Rattle.top_rows.specs.contracts.short_key.ShortKeyOrd.TheImpl as order
use Rattle.group_order.specs.EntryForms.{entries_in}
use Rattle.group_order.proofs.group_entries.insert.Goals as goal

pub returns-in-Some : goal.returns-in-Some
returns-in-Some c =
    insert-pair order.ghosts.cmp tuple_cmp sort_keys_of_one one-ordered c.in-Short.pairs.keys
    (entries_in c.args.form.now) (ap entries_in (sym c.in-Short.is)) c.insert.new.self.keys
    (c.args.sort_keys, c.args.tuple) (c.in-Some.key, c.args.tuple) (ap (λ keys. (keys, c.args.tuple)) c.in-Some.ensures)
    c.in_ok-insert-in-Some.ensures.keys
