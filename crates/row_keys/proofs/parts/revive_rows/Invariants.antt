use Rattle.std.proofs.Common.{◌≡◌}
use Rattle.row_keys.proofs.TakenApart.{revived_to}
use Rattle.row_keys.proofs.parts.revive_rows.Given as goal

abbrev pub invariant-loop-row : goal.invariant-loop-row
invariant-loop-row l = l.numbers ≡ revived_to l.row-index l.rows l.len
