use Rattle.std.proofs.Common.{arith}
use Rattle.row_keys.proofs.FoundRows.{misses_key}
use Rattle.row_keys.proofs.key_columns.find_keys.Goals as goal

pub returns-in-None-clause-missed : goal.returns-in-None-clause-missed
returns-in-None-clause-missed c =
    misses_key c.args.column.now.cells c.loop-index.index c.args.numbers.now c.in_ok-key.key.now
    (omega (arith, c.loop-index-test.true, c.len-index-end.ensures)) c.in_ok-key.ensures c.in-None.ensures
