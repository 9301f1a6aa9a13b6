use Rattle.std.proofs.Common.{◌≡◌, sym, subst, ◌∙◌}
use Rattle.std.specs.Prelude.{slice_set}
use Rattle.std.proofs.lemmas.Option.{get_or_from_slice_get}
use Rattle.row_keys.specs.Entries.{Changes}
use Rattle.row_keys.specs.declared.numbers.RetainedEntry.{RetainedEntry}
use Rattle.row_keys.proofs.RetainedEntries.{changed}
use Rattle.row_keys.proofs.numbers.set_entry.Goals as goal

pub returns : goal.returns
returns c = λ number at.
    let same : c.index.result.now ≡ at.one =
    c.index.ensures
    ∙ get_or_from_slice_get c.args.kept.now.items c.args.place at.one c.index.result.now at.there in
    let P : RetainedEntry → Type 0 = λ x. Changes c.args.kept.now.items number c.args.entry
    (slice_set c.args.kept.now.items c.args.place (record { number = x.number; entry = c.args.entry })) in
    subst P (sym same)
    (changed c.args.kept.now.items number c.args.place at.one c.args.entry at.there at.number)
