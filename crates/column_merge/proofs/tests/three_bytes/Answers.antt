use Rattle.std.proofs.Common.{arith, refl}
use Rattle.column_merge.proofs.ByteRows.{one_column}
use Rattle.column_merge.proofs.tests.three_bytes.Goals as goal

pub returns : goal.returns
returns c =
    let column = c.in_ok-column.column in
    let all =
    one_column column c.in_ok-vec-2.field-0.items c.in_ok-vec-2.ensures.items
    (rw c.new-2.ensures.items at c.in_ok-column.ensures.typed) c.law.ensures
    (omega (arith, c.len.ensures, c.if-len-ne3.false)) in
    record { rows = refl; sized = record { columns = all.0; cells = all.1 }; bytes = all.2 }
