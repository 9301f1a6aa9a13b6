use Rattle.std.proofs.Common.{Some, sym, subst}
use Rattle.feed.specs.Shown.{HasValues, values_next}
use Rattle.feed.proofs.BatchLemmas.{has-next}
use Rattle.feed.proofs.message.take_dictionary.Goals as goal

pub returns-clause-has : goal.returns-clause-has
returns-clause-has c =
    subst (λ r. HasValues (Some c.args.schema.now.fields.items) (values_next c.prepare_change.new.dicts (Some r)))
    (sym c.in_ok-ready.ensures.change)
    (has-next c.args.schema.now.fields.items c.args.dicts.now c.prepare_change.new.dicts c.args.header.now
    c.in_ok-values.values
    c.in_ok-ready.ensures.same c.requires.has c.in_ok-values.ensures.typed)
