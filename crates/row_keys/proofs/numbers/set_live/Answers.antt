use Rattle.std.proofs.Common.{◌≡◌, List, subst}
use Rattle.row_keys.specs.Entries.{IsRetainedAt, entry_in, gone_entry}
use Rattle.row_keys.specs.declared.numbers.RetainedEntry.{RetainedEntry}
use Rattle.row_keys.proofs.RetainedEntries.{entries_flagged, none_flagged}
use Rattle.row_keys.proofs.RetainedIndex.{entry_got, kept_in}
use Rattle.row_keys.proofs.numbers.set_live.Goals as goal

pub returns-in-Some-clause-flagged : goal.returns-in-Some-clause-flagged
returns-in-Some-clause-flagged c = λ len order.
    let at : IsRetainedAt c.args.kept.now.items c.args.number c.in-Some.place =
    kept_in c.args.kept.now.items c.deref.result.now c.args.number c.in-Some.place c.deref.ensures.value
    c.in-Some.ensures in
    entries_flagged c.args.kept.now.items c.set_entry.new.kept.items len c.args.number c.args.is_live
    c.index.result.now.entry order
    (entry_got c.args.kept.now.items c.deref.result.now len c.args.number c.in-Some.place c.index.result.now order
    c.deref.ensures.value c.in-Some.ensures c.index.ensures)
    (c.set_entry.ensures c.args.number at)

pub returns-in-None-clause-flagged : goal.returns-in-None-clause-flagged
returns-in-None-clause-flagged c = λ len order.
    let P : List RetainedEntry → Type 0 = λ ks. entry_in ks c.args.number ≡ gone_entry in
    let gone = subst P c.deref.ensures.value c.in-None.ensures in
    none_flagged c.args.kept.now.items len c.args.number c.args.is_live gone (c.requires.kept gone)
