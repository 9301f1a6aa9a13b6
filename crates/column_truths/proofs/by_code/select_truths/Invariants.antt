use Rattle.column_truths.specs.Compared.{slot_truth}
use Rattle.column_truths.proofs.JoinedTruths.{Gathered}
use Rattle.column_truths.proofs.by_code.select_truths.Given as goal

abbrev pub invariant-loop-i : goal.invariant-loop-i
invariant-loop-i l = Gathered (slot_truth l.bits l.indices l.width l.signed l.of_values) l.known l.unknown l.i
