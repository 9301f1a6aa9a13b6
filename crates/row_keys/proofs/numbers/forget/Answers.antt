use Rattle.std.proofs.Common.{◌≡◌, List, subst}
use Rattle.row_keys.specs.Entries.{IsRetainedAt, entry_in, gone_entry}
use Rattle.row_keys.specs.declared.numbers.RetainedEntry.{RetainedEntry}
use Rattle.row_keys.proofs.RetainedEntries.{entries_set, none_forgotten}
use Rattle.row_keys.proofs.RetainedIndex.{kept_in}
use Rattle.row_keys.proofs.numbers.forget.Goals as goal

pub returns-in-Some-clause-gone : goal.returns-in-Some-clause-gone
returns-in-Some-clause-gone c = λ len order.
    let at : IsRetainedAt c.args.kept.now.items c.args.number c.in-Some.place =
    kept_in c.args.kept.now.items c.deref.result.now c.args.number c.in-Some.place c.deref.ensures.value
    c.in-Some.ensures in
    entries_set c.args.kept.now.items c.set_entry.new.kept.items len c.args.number gone_entry order
    (c.set_entry.ensures c.args.number at)

pub returns-in-None-clause-gone : goal.returns-in-None-clause-gone
returns-in-None-clause-gone c = λ len order.
    let P : List RetainedEntry → Type 0 = λ ks. entry_in ks c.args.number ≡ gone_entry in
    none_forgotten c.args.kept.now.items len c.args.number (subst P c.deref.ensures.value c.in-None.ensures)
