use Rattle.std.proofs.Common.{ap, sym, ◌∙◌}
use Rattle.std.proofs.lemmas.Option.{get_or_from_slice_get}
use Rattle.row_keys.specs.Entries.{entry_in, gone_entry}
use Rattle.row_keys.specs.declared.numbers.RetainedEntry.{RetainedEntry}
use Rattle.row_keys.proofs.RetainedEntries.{entry_there}
use Rattle.row_keys.proofs.numbers.entry_at.Goals as goal

pub returns-in-Some : goal.returns-in-Some
returns-in-Some c =
    let at = c.in-Some.ensures in
    ap (λ (k : RetainedEntry). k.entry)
    (get_or_from_slice_get c.args.kept.now c.in-Some.place at.one (record { number = 0; entry = gone_entry }) at.there)
    ∙ sym (entry_there 0 c.requires.0 c.in-Some.place c.args.kept.now at.one c.requires.1 at.there)
    ∙ ap (entry_in c.args.kept.now) at.number
