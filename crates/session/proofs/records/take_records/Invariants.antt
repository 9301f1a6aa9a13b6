use Rattle.std.proofs.Common.{◌≡◌, ◌++◌}
use Rattle.session.proofs.records.take_records.Given as goal

abbrev pub invariant-loop-record : goal.invariant-loop-record
invariant-loop-record l = l.taken.items ++ l.record-iterator ≡ l.fn.records.items
