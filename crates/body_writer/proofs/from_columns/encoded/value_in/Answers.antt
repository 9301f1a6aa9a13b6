use Rattle.body_writer.proofs.EncodedLemmas.{value-there}
use Rattle.body_writer.proofs.from_columns.encoded.value_in.Goals as goal

pub returns-else-is_null-clause-found : goal.returns-else-is_null-clause-found
returns-else-is_null-clause-found c valid s good =
    value-there c.args.width c.args.values.now c.args.indices.now c.args.i c.index_at.result c.value_at.result
    c.index_at.ensures.value c.index_at.ensures.bound c.value_at.ensures s good
