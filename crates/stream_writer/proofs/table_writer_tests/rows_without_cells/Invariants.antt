use Rattle.std.proofs.Common.{All, ◌≡◌, ◌≤◌, ◌-◌, [], length}
use Rattle.std.specs.Prelude.{Vec}
use Rattle.std.specs.declared.alloc.Global.{Global}
use Rattle.values.specs.Datum.{Datum}
use Rattle.stream_writer.proofs.table_writer_tests.rows_without_cells.Given as goal

abbrev pub invariant-loop-alloc : goal.invariant-loop-alloc
invariant-loop-alloc l = record {
  few : length l.rows.items ≤ l.count;
  plain : All (λ (row : Vec Datum Global). row.items ≡ []) l.rows.items;
}

abbrev pub decreases-loop-alloc : goal.decreases-loop-alloc
decreases-loop-alloc l = l.count - length l.rows.items
