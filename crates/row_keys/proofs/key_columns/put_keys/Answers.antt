use Rattle.std.proofs.Common.{arith}
use Rattle.row_keys.proofs.PutKeys.{puts_more}
use Rattle.row_keys.proofs.key_columns.put_keys.Goals as goal

pub loop-index-preserved : goal.loop-index-preserved
loop-index-preserved c =
    puts_more c.args.column.now.cells c.loop-index.index c.len-first.result c.args.numbers.now c.loop-index.numbers
    c.put_key.new.numbers c.loop-index.replaced.items c.put_key.new.replaced.items
    (omega (arith, c.loop-index-test.true, c.len-index-end.ensures)) c.len-first.ensures.value c.loop-index.invariant
    c.in_default.ensures.put
