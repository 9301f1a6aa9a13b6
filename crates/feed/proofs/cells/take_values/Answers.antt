use Rattle.std.proofs.Common.{ap, sym, ◌∙◌, length}
use Rattle.std.specs.Option.{option_copied}
use Rattle.feed.proofs.BatchLemmas.{fits-type, values-typed}
use Rattle.feed.proofs.cells.take_values.Goals as goal

pub check_values-requires : goal.check_values-requires
check_values-requires c =
    fits-type c.args.schema.now.fields.items (length c.args.body.items) c.args.header.now c.in-Some.stored.now
    c.requires
    (sym c.value_type.ensures ∙ ap option_copied c.in-Some.is)

pub returns-clause-typed : goal.returns-clause-typed
returns-clause-typed c =
    values-typed c.args.schema.now.fields.items c.args.header.now c.in-Some.stored.now c.in_ok-column.column.layouts _
    (sym c.value_type.ensures ∙ ap option_copied c.in-Some.is) c.in_ok-column.ensures.typed
    c.in_ok-read_values.ensures.typed
