use Rattle.std.proofs.Common.{get_or}
use Rattle.values.specs.Datum.{null, is_null}
use Rattle.std.specs.Prelude.{Some}
use Rattle.column_truths.proofs.JoinedTruths.{Gathered}
use Rattle.column_truths.proofs.filter.nulls.Given as goal

abbrev pub invariant-loop-i : goal.invariant-loop-i
invariant-loop-i l = Gathered (λ i. Some (is_null (get_or l.column.cells i null))) l.known l.unknown l.i
