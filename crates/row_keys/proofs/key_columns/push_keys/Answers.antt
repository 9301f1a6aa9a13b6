use Rattle.std.proofs.Common.{arith}
use Rattle.row_keys.proofs.KeysOfBatch.{keys_refused}
use Rattle.row_keys.proofs.key_columns.push_keys.Goals as goal

pub returns-in-Err-clause-refused : goal.returns-in-Err-clause-refused
returns-in-Err-clause-refused c =
    keys_refused c.args.column.now.cells c.loop-index.index c.args.numbers.now c.loop-index.numbers c.in-Err.fault
    (omega (arith, c.loop-index-test.true, c.len-index-end.ensures)) c.loop-index.invariant c.in-Err.ensures.refused
