use Rattle.showing.specs.Tables.{IsWider}
use Rattle.showing.proofs.table.widest.Given as goal

abbrev pub invariant-loop-row : goal.invariant-loop-row
invariant-loop-row l = IsWider l.field l.column l.row l.width l.most
