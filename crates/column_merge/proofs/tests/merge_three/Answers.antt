use Rattle.std.proofs.Common.{arith}
use Rattle.column_merge.proofs.ByteRows.{three_ranges}
use Rattle.column_merge.proofs.tests.merge_three.Goals as goal

pub merge_rows-requires-clause-batch : goal.merge_rows-requires-clause-batch
merge_rows-requires-clause-batch c =
    rw (c.deref.ensures.value, c.in_ok-layouts.ensures) (
    three_ranges record { batch = c.args.first; from = 0; to = 1 } record { batch = c.args.first; from = 2; to = 3 }
    record { batch = c.args.second; from = 1; to = 2 } c.requires.first c.requires.first c.requires.second
    (omega arith) (omega arith) (omega arith))
