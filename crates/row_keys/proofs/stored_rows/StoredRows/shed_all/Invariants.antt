use Rattle.std.proofs.Common.{◌≡◌}
use Rattle.row_keys.proofs.stored_rows.StoredRows.shed_all.Given as goal

abbrev pub invariant-loop : goal.invariant-loop
invariant-loop l = l.self ≡ l.fn.self
