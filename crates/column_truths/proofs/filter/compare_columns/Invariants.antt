use Rattle.std.proofs.Common.{get_or}
use Rattle.values.specs.Datum.{null}
use Rattle.view_lang.specs.Truth.{compared}
use Rattle.column_truths.proofs.JoinedTruths.{Gathered}
use Rattle.column_truths.proofs.filter.compare_columns.Given as goal

abbrev pub invariant-loop-i : goal.invariant-loop-i
invariant-loop-i l = Gathered (λ i. compared l.comparison (get_or l.first.cells i null) (get_or l.second.cells i null)) l.known l.unknown l.i
