use Rattle.dictionaries.specs.Table.{values_in}
use Rattle.feed.proofs.BatchLemmas.{checked-columns}
use Rattle.feed.proofs.columns.take_columns.Goals as goal

pub returns-clause-typed : goal.returns-clause-typed
returns-clause-typed c =
    checked-columns c.place_law.ensures.placed (values_in c.args.dicts.now) c.args.body.items
    c.args.schema.now.fields.items c.args.header.now c.check_columns.result c.requires.fits
    (rw (c.in_ok-body.ensures.ok, c.deref.ensures.value) at c.check_columns.ensures.reading)
    (rw c.deref.ensures.value at c.check_columns.ensures.typed)
