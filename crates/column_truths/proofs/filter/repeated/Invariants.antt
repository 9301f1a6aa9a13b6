use Rattle.std.specs.Prelude.{Some}
use Rattle.column_truths.proofs.JoinedTruths.{Gathered}
use Rattle.column_truths.proofs.filter.repeated.Given as goal

abbrev pub invariant-loop-i : goal.invariant-loop-i
invariant-loop-i l = Gathered (λ i. Some l.truth) l.known l.unknown l.i
